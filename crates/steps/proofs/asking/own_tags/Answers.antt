use Rattle.std.proofs.Common.{rules}
use Rattle.terms.specs.Items.{items}
use Rattle.terms.proofs.Listed.{listed_by}
use Rattle.server.specs.Servers.{server}
use Rattle.steps.proofs.asking.own_tags.Goals as goal

pub returns : goal.returns
returns c = listed_by (items c.from_fn.result) c.args.n (server c.args.p.now).own c.zero.result c.from_fn.ensures.counted (λ i h. search (rules, c.from_fn.ensures.made i h))
