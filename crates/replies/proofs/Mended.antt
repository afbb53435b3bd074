-- A symbol that is mended object by object. Assumes nothing.
use Rattle.std.proofs.Common.{◌≡◌, ℕ, zero, suc, ◌+◌, ◌-◌, ◌≤◌, List, Some, None, Option, sym, refl, ap, ◌∙◌, add-one, arith}
use Rattle.message.specs.declared.tag.Tag.{Tag}
use Rattle.rules.specs.Delivering.{mended, mended_next, mended_at}
use Rattle.rules.specs.State.{Layout, Server, Asking}

module _ (l : Layout) (p : Server) (a : ℕ) (r : Asking) (v : List ℕ) (ts : List Tag) where
  pub mended_none : mended l p a r v ts 0 ≡ Some v
  unfolding mended
  mended_none = refl

  mended_more : (y : ℕ) → mended l p a r v ts (y + 1) ≡ mended_next l p a r ts y (mended l p a r v ts y)
  unfolding mended
  mended_more y = ap (mended l p a r v ts) (add-one y)

  -- one object more
  pub mended_by : (y : ℕ) (w : List ℕ) (o : Option (List ℕ)) → Some w ≡ mended l p a r v ts y → o ≡ mended_at l p a r ts y w → o ≡ mended l p a r v ts (y + 1)
  mended_by y w o so_far next = next ∙ ap (mended_next l p a r ts y) so_far ∙ sym (mended_more y)

  later : (y k : ℕ) → mended l p a r v ts y ≡ None → mended l p a r v ts (y + k) ≡ None
  unfolding mended
  later y zero e = let same : y + 0 ≡ y = omega arith in ap (mended l p a r v ts) same ∙ e
  later y (suc k) e = let step : y + suc k ≡ suc (y + k) = omega arith in ap (mended l p a r v ts) step ∙ ap (mended_next l p a r ts (y + k)) (later y k e)

  -- what cannot be mended at one object cannot be mended
  pub mended_never : (y n : ℕ) → y ≤ n → None ≡ mended l p a r v ts y → None ≡ mended l p a r v ts n
  mended_never y n le e = let k = n - y in let far : n ≡ y + k = omega arith in sym (ap (mended l p a r v ts) far ∙ later y k (sym e))
