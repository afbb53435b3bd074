use Rattle.std.proofs.Common.{Bool, not, map, vec_items, ap, ◌∙◌, rules}
use Rattle.std.proofs.lemmas.Fn.{filter_same}
use Rattle.rules.specs.Histories as rules
use Rattle.history.specs.Entries.{entry}
use Rattle.history.specs.declared.history.Entry.{Entry}
use Rattle.history.specs.Sifting.{unwanted_below}
use Rattle.reads.specs.Readings.{reads}
use Rattle.reads.proofs.Lists.{kept_by_map}
use Rattle.history.proofs.history.History.forget_below.Goals as goal

pub returns : goal.returns
returns c =
    let stays : rules.Entry → Bool = λ e. not (unwanted_below c.args.object c.args.floor (reads c.args.wanting.now) e) in
    let kept = filter_same _ (λ (e : Entry). stays (entry e)) _ (λ x b f' k. search rules) _ _ c.retain.ensures.filtered in
    record { rest = ap (map entry) kept ∙ kept_by_map entry stays (vec_items c.args.self.now.entries) }
