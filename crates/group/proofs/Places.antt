-- One server of a group changed. Assumes nothing.
use Rattle.std.proofs.Common.{◌≡◌, ℕ, zero, suc, ◌<◌, List, [], ◌∷◌, ◌++◌, map, length, get_or, set, sym, refl, ap, ◌∙◌, inl, inr}
use mathlib.Core.Path.{fun_ext}
use Rattle.std.proofs.lemmas.List.{length-map, map-set}
use Rattle.std.proofs.lemmas.Bool.{cases_eq}
use Rattle.message.specs.Meanings.{Meaning}
use Rattle.rules.specs.Lanes.{Lanes}
use Rattle.rules.specs.State as rules
use Rattle.rules.specs.State.{State, new_server}
use Rattle.rules.specs.Words.{upd}
use Rattle.rules.specs.Writing.{put}
use Rattle.teller.specs.declared.teller.Teller.{Teller}
use Rattle.teller.specs.Tellers.{teller}
use Rattle.reads.proofs.Lists.{map_at}
use Rattle.reads.proofs.Words.{get_or_upd, upd_same, upd_other}
use Rattle.group.specs.States.{AllNew}

pub upd_self : {A : Type 0} (f : ℕ → A) (i : ℕ) → upd f i (f i) ≡ f
upd_self f i = fun_ext (λ k. elim (cases_eq k i) [ inl e ↦ ap (upd f i (f i)) e ∙ upd_same f i (f i) ∙ ap f (sym e) | inr ne ↦ upd_other f i k (f i) ne ])

-- the servers of a group as the rules see them
abbrev pub servers_of : ℕ → List Teller → ℕ → rules.Server
servers_of cells items i = get_or (map teller items) i (new_server cells)

abbrev pub state_of : ℕ → List Teller → Lanes Meaning → State
state_of cells items lanes = record { servers = servers_of cells items; lanes = lanes }

module _ (cells : ℕ) (items : List Teller) (i : ℕ) (lt : i < length items) where
  pub at_server : (s : Teller) → s ≡ get_or items i s → teller s ≡ servers_of cells items i
  at_server s is = map_at teller items i s (new_server cells) lt is

  pub put_is : (s : Teller) (L M : Lanes Meaning) → state_of cells (set items i s) M ≡ put (state_of cells items L) i (teller s) M
  put_is s L M =
      let within : i < length (map teller items) = simp length-map lt in
      let see : List rules.Server → ℕ → rules.Server = λ xs k. get_or xs k (new_server cells) in
      let whole : (ℕ → rules.Server) → State = λ f. record { servers = f; lanes = M } in
      ap whole (ap see (map-set teller items i s) ∙ get_or_upd (map teller items) i (teller s) (new_server cells) within)

-- the server put back as it was
pub put_self : (S : State) (i : ℕ) → put S i (S.servers i) S.lanes ≡ S
put_self S i = let whole : (ℕ → rules.Server) → State = λ f. record { servers = f; lanes = S.lanes } in ap whole (upd_self S.servers i)

-- one more new server
pub new_more : (cells : ℕ) (items : List Teller) (s : Teller) → teller s ≡ new_server cells → AllNew cells items → AllNew cells (items ++ s ∷ [])
new_more cells [] s e all zero = e
new_more cells [] s e all (suc i) = refl
new_more cells (t ∷ items) s e all zero = all 0
new_more cells (t ∷ items) s e all (suc i) = new_more cells items s e (λ k. all (suc k)) i
