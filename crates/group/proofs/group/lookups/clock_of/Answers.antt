use Rattle.std.proofs.Common.{rules, ℕ, ap, ◌∙◌}
use Rattle.terms.specs.Items.{items}
use Rattle.terms.specs.Lists.{listed}
use Rattle.terms.proofs.Listed.{listed_by}
use Rattle.server.specs.Servers.{server}
use Rattle.group.proofs.group.lookups.clock_of.Goals as goal

pub returns : goal.returns
returns g c =
    let clock = (server c.args.holder.now).clock in
    record {
      counts =
          listed_by (items c.from_fn.result) c.servers.result clock 0 c.from_fn.ensures.counted (λ i h. search (rules, c.from_fn.ensures.made i h))
          ∙ ap (λ (n : ℕ). listed n clock) c.servers.ensures.counted;
    }
