use Rattle.std.proofs.Common.{◌≡◌, ℕ, ◌<◌, ◌≤◌, List, [], length, get_or, take, sym, ap, ◌∙◌, arith}
use Rattle.std.specs.List.{list_all}
use Rattle.terms.specs.Lists.{every}
use Rattle.message.specs.declared.tag.Tag.{Tag}
use Rattle.message.specs.Tags.{zero_tag, same}
use Rattle.server.specs.Servers.{server, told_tags}
use Rattle.server.specs.declared.server.Told.{Told}
use Rattle.reads.proofs.Lists.{map_at}
use Rattle.server.proofs.Steps.{every_taken}
use Rattle.server.proofs.server.Server.all_told_own.Goals as goal

pub returns : goal.returns
returns c =
    let p = c.args.self.now in
    let n = c.args.n in
    let x = c.args.object.number in
    let own : Tag = (server p).own x in
    let row = c.index-self-object.result in
    let lt : x < length p.told = omega (arith, c.args.object.within, p.told_each) in
    let few : n ≤ length row.tags = omega (arith, c.requires, row.tag_each) in
    let seen : Told = get_or p.told x row in
    let own_is : c.own_tag-own.result ≡ own = c.own_tag-own.ensures.told in
    let told : c.is_told_by.result ≡ list_all (λ (t : Tag). same t c.own_tag-own.result) (take n seen.tags) = c.is_told_by.ensures in
    told
    ∙ ap (λ (t : Tag). list_all (λ (u : Tag). same u t) (take n seen.tags)) own_is
    ∙ ap (λ (r : Told). list_all (λ t. same t own) (take n r.tags)) (sym c.index-self-object.is)
    ∙ sym (every_taken (λ t. same t own) row.tags zero_tag n few)
    ∙ ap (λ (ts : List Tag). every n (λ (j : ℕ). same (get_or ts j zero_tag) own)) (map_at told_tags p.told x row [] lt c.index-self-object.is)
