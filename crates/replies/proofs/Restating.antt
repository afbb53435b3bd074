-- A symbol that is restated object by object. Assumes nothing.
use Rattle.std.proofs.Common.{◌≡◌, ℕ, ◌+◌, cond, List, get_or, refl, ap, add-one}
use Rattle.message.specs.declared.tag.Tag.{Tag}
use Rattle.message.specs.Tags.{zero_tag}
use Rattle.rules.specs.Delivering.{exchanges, stated, restated}
use Rattle.rules.specs.Encoding.{turned}
use Rattle.rules.specs.State.{Layout, Server}

module _ (l : Layout) (s : ℕ) (p : Server) (ts : List Tag) where
  pub restated_none : restated l s p ts 0 ≡ p.symbol
  unfolding restated
  restated_none = refl

  pub restated_more : (y : ℕ) → restated l s p ts (y + 1)
      ≡ cond (exchanges l s p y (get_or ts y zero_tag)) (turned l s p y (p.own y) (stated l s p y (get_or ts y zero_tag)) (restated l s p ts y)) (restated l s p ts y)
  unfolding restated
  restated_more y = ap (restated l s p ts) (add-one y)
