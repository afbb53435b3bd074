use Rattle.std.proofs.Common.{◌≡◌, ℕ, ◌≤◌, Bool, true, false, cond, List, length, get_or, Some, sym, ap, ◌∙◌, subst, ap₂}
use Rattle.terms.specs.Items.{items}
use Rattle.terms.specs.Lists.{listed}
use Rattle.message.specs.declared.tag.Tag.{Tag}
use Rattle.message.specs.Tags.{zero_tag}
use Rattle.code.specs.Meaning.{meaning}
use Rattle.rules.specs.Histories as rules
use Rattle.rules.specs.Histories.{holds, value_under}
use Rattle.rules.specs.Delivering.{stated, restated}
use Rattle.server.specs.Servers.{server}
use Rattle.server.specs.Steps.{laid}
use Rattle.message.specs.Meanings.{plain_reply, coded_reply}
use Rattle.message.specs.Ranges.{in_range}
use Rattle.steps.proofs.Facts.{value_some}
use Rattle.steps.proofs.Ranges.{plain_range, coded_range}
use Rattle.replies.proofs.Sending.{cells_few, question_number, stated_ok}
use Rattle.replies.proofs.seats.Seat.reply.Goals as goal

pub invariant_of-result : goal.invariant_of-result
invariant_of-result g c =
    let q = c.args.p.now in
    let p = server q.server in
    let code = c.args.self.now.code.now in
    let x = c.args.object in
    let m = c.args.read in
    let ts = items c.args.asked.now in
    let tag : c.get_or-tag.result ≡ get_or ts x zero_tag = c.get_or-tag.ensures.found ∙ ap (get_or ts x) c.zero.ensures.zero in
    let held : true ≡ holds p.history x (get_or ts x zero_tag) = c.if-holds.ensures.decided ∙ ap₂ (λ (es : List rules.Entry) (t : Tag). holds es x t) c.history.ensures.told tag in
    let value : items c.value_under-value.result ≡ value_under code.cells p.history x (get_or ts x zero_tag) =
    c.value_under-value.ensures.value ∙ ap₂ (λ (es : List rules.Entry) (t : Tag). value_under code.cells es x t) c.history-then-holds.ensures.told tag in
    let some = subst (λ (v : List ℕ). 1 ≤ length v) (sym value) (value_some code.cells p.history x (get_or ts x zero_tag) q.in_range.entries code.least_cells) in
    record { sendable = plain_range m (items c.value_under-value.result) (question_number m x ts c.requires) some (cells_few c.value_under-value.result) }

pub returns-then-holds : goal.returns-then-holds
returns-then-holds g c =
    let q = c.args.p.now in
    let p = server q.server in
    let code = c.args.self.now.code.now in
    let x = c.args.object in
    let m = c.args.read in
    let ts = items c.args.asked.now in
    let tag : c.get_or-tag.result ≡ get_or ts x zero_tag = c.get_or-tag.ensures.found ∙ ap (get_or ts x) c.zero.ensures.zero in
    let held : true ≡ holds p.history x (get_or ts x zero_tag) = c.if-holds.ensures.decided ∙ ap₂ (λ (es : List rules.Entry) (t : Tag). holds es x t) c.history.ensures.told tag in
    let value : items c.value_under-value.result ≡ value_under code.cells p.history x (get_or ts x zero_tag) =
    c.value_under-value.ensures.value ∙ ap₂ (λ (es : List rules.Entry) (t : Tag). value_under code.cells es x t) c.history-then-holds.ensures.told tag in
    let some = subst (λ (v : List ℕ). 1 ≤ length v) (sym value) (value_some code.cells p.history x (get_or ts x zero_tag) q.in_range.entries code.least_cells) in
    record {
      outcome = ap (λ (b : Bool). cond {A = ℕ} b 1 2) held;
      reply = λ places.
          let l = laid (meaning g.F.Field.arithmetic code) places in
          let coded = coded_reply m (restated l c.args.self.now.server.number p ts code.objects) (listed code.objects (λ y. stated l c.args.self.now.server.number p y (get_or ts y zero_tag))) in
          ap (λ (v : List ℕ). Some (plain_reply m v)) value ∙ ap (λ (b : Bool). Some (cond b (plain_reply m (value_under code.cells p.history x (get_or ts x zero_tag))) coded)) held;
    }

pub invariant_of-result-2 : goal.invariant_of-result-2
invariant_of-result-2 g c =
    let q = c.args.p.now in
    let p = server q.server in
    let code = c.args.self.now.code.now in
    let s = c.args.self.now.server.number in
    let x = c.args.object in
    let m = c.args.read in
    let ts = items c.args.asked.now in
    let tag : c.get_or-tag.result ≡ get_or ts x zero_tag = c.get_or-tag.ensures.found ∙ ap (get_or ts x) c.zero.ensures.zero in
    let held : false ≡ holds p.history x (get_or ts x zero_tag) = c.if-holds.ensures.decided ∙ ap₂ (λ (es : List rules.Entry) (t : Tag). holds es x t) c.history.ensures.told tag in
    let f : ℕ → ℕ → Tag = λ places y. stated (laid (meaning g.F.Field.arithmetic code) places) s p y (get_or ts y zero_tag) in
    record {
      sendable =
          ap (λ (us : List Tag). in_range (coded_reply m (items c.restated.result.cells) us)) (c.stated_tags-stated.ensures 0)
          ∙ coded_range m (items c.restated.result.cells) code.objects (f 0) zero_tag (question_number m x ts c.requires) c.restated.result.some_cells (cells_few c.restated.result.cells) code.least_objects code.most_objects
          (λ i lt. stated_ok m x ts c.requires (laid (meaning g.F.Field.arithmetic code) 0) s p q.in_range.own_tags i);
    }

pub returns : goal.returns
returns g c =
    let q = c.args.p.now in
    let p = server q.server in
    let code = c.args.self.now.code.now in
    let s = c.args.self.now.server.number in
    let x = c.args.object in
    let m = c.args.read in
    let ts = items c.args.asked.now in
    let tag : c.get_or-tag.result ≡ get_or ts x zero_tag = c.get_or-tag.ensures.found ∙ ap (get_or ts x) c.zero.ensures.zero in
    let held : false ≡ holds p.history x (get_or ts x zero_tag) = c.if-holds.ensures.decided ∙ ap₂ (λ (es : List rules.Entry) (t : Tag). holds es x t) c.history.ensures.told tag in
    let f : ℕ → ℕ → Tag = λ places y. stated (laid (meaning g.F.Field.arithmetic code) places) s p y (get_or ts y zero_tag) in
    record {
      outcome = ap (λ (b : Bool). cond {A = ℕ} b 1 2) held;
      reply = λ places.
          let l = laid (meaning g.F.Field.arithmetic code) places in
          let coded = coded_reply m (restated l s p ts code.objects) (listed code.objects (f places)) in
          ap₂ (λ (v : List ℕ) (us : List Tag). Some (coded_reply m v us)) (c.restated.ensures.symbol places) (c.stated_tags-stated.ensures places)
          ∙ ap (λ (b : Bool). Some (cond b (plain_reply m (value_under code.cells p.history x (get_or ts x zero_tag))) coded)) held;
    }
