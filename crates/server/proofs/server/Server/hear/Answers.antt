use Rattle.std.proofs.Common.{◌≡◌, ℕ, ◌<◌, List, [], map, length, get_or, set, sym, ap, ◌∙◌, arith}
use Rattle.std.proofs.lemmas.List.{length-map, map-set, get_or-map}
use Rattle.message.specs.declared.tag.Tag.{Tag}
use Rattle.message.specs.Tags.{zero_tag}
use Rattle.server.specs.Servers.{server, told_tags}
use Rattle.reads.proofs.Lists.{map_at}
use Rattle.reads.proofs.Words.{rows_upd}
use Rattle.server.proofs.Parts.{hearing_is}
use Rattle.server.proofs.server.Server.hear.Goals as goal

pub returns : goal.returns
returns c =
    let p = c.args.self.now in
    let x = c.args.object.number in
    let j = c.args.j.number in
    let row = c.index-self-object.result in
    let rows = map told_tags p.told in
    let ltx : x < length p.told = omega (arith, c.args.object.within, p.told_each) in
    let ltx' : x < length rows = omega (arith, length-map p.told told_tags) in
    let is : row.tags ≡ get_or rows x [] = map_at told_tags p.told x row [] ltx c.index-self-object.is in
    let ltj : j < length (get_or rows x []) = omega (arith, ap length is, row.tag_each, c.args.j.within) in
    let see : List (List Tag) → ℕ → ℕ → Tag = λ rs y k. get_or (get_or rs y []) k zero_tag in
    let written = ap (λ (r : List Tag). set r j c.args.tag) (sym (get_or-map told_tags p.told x row [] ltx)) in
    record { after = hearing_is (server p) x j c.args.tag _ (ap see (map-set told_tags p.told x _ ∙ ap (set rows x) written) ∙ rows_upd rows x j c.args.tag zero_tag ltx' ltj) }
