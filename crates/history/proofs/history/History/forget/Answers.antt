use Rattle.std.proofs.Common.{Bool, not, map, vec_items, ap, ◌∙◌, rules}
use Rattle.std.proofs.lemmas.Fn.{filter_same}
use Rattle.rules.specs.Histories as rules
use Rattle.rules.specs.Histories.{is_entry}
use Rattle.history.specs.Entries.{entry}
use Rattle.history.specs.declared.history.Entry.{Entry}
use Rattle.reads.proofs.Lists.{kept_by_map}
use Rattle.history.proofs.history.History.forget.Goals as goal

pub returns : goal.returns
returns c =
    let stays : rules.Entry → Bool = λ e. not (is_entry c.args.object c.args.tag e) in
    let kept = filter_same _ (λ (e : Entry). stays (entry e)) _ (λ x b f' k. search rules) _ _ c.retain.ensures.filtered in
    record { rest = ap (map entry) kept ∙ kept_by_map entry stays (vec_items c.args.self.now.entries) }
