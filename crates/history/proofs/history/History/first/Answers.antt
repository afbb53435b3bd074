use Rattle.std.proofs.Common.{Bool, vec_items, ◌∙◌, rules, tests}
use Rattle.std.proofs.lemmas.Iterator.{YieldsList-from_slice}
use Rattle.std.proofs.lemmas.Iterator.Adapters.{position_from-zero}
use Rattle.std.proofs.lemmas.Iterator.Search.{position_from_yields_List}
use Rattle.rules.specs.Histories.{is_entry}
use Rattle.history.specs.Entries.{entry}
use Rattle.history.specs.declared.history.Entry.{Entry}
use Rattle.history.proofs.Firsts.{first_map}
use Rattle.history.proofs.history.History.first.Goals as goal

pub returns : goal.returns
returns c =
    let es = vec_items c.args.self.now.entries in
    let test : Entry → Bool = λ e. is_entry c.args.object c.args.tag (entry e) in
    position_from_yields_List test _ _ _ c.position.ensures.ran (YieldsList-from_slice es cc) (λ x b q k. search (rules, tests))
    ∙ position_from-zero test es ∙ first_map entry (is_entry c.args.object c.args.tag) 0 es
