use Rattle.std.proofs.Common.{ℕ, ◌<◌, ◌≤◌, List, [], length, get_or, take, sym, ap, ◌∙◌, arith}
use Rattle.message.specs.declared.tag.Tag.{Tag}
use Rattle.message.specs.Tags.{zero_tag}
use Rattle.rules.specs.Encoding.{lowest}
use Rattle.server.specs.Servers.{told_tags}
use Rattle.server.specs.declared.server.Told.{Told}
use Rattle.reads.proofs.Lists.{map_at}
use Rattle.server.proofs.Steps.{lowest_take}
use Rattle.server.proofs.server.Server.floor.Goals as goal

pub returns : goal.returns
returns c =
    let p = c.args.self.now in
    let n = c.args.n in
    let x = c.args.object.number in
    let row = c.index-self-object.result in
    let lt : x < length p.told = omega (arith, c.args.object.within, p.told_each) in
    let few : n ≤ length row.tags = omega (arith, c.requires.few, row.tag_each) in
    let low : List Tag → Tag = λ ts. lowest (length ts) (λ (j : ℕ). get_or ts j zero_tag) in
    c.lowest.ensures
    ∙ ap low (c.first.ensures ∙ ap (λ (r : Told). take n r.tags) (sym c.index-self-object.is))
    ∙ lowest_take n row.tags zero_tag c.requires.some few
    ∙ ap (λ (ts : List Tag). lowest n (λ (j : ℕ). get_or ts j zero_tag)) (map_at told_tags p.told x row [] lt c.index-self-object.is)
