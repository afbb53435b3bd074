-- In every run every symbol is the code of what was written under the server's own tags.
use Rattle.std.proofs.Common.{◌≡◌, ℕ, ◌+◌, ◌/◌, ◌%◌, ◌<◌, ◌≤◌, true, false, ◌&&◌, eqb, ltb, List, [], ◌∷◌, ◌++◌, length, get_or, sym, refl, ap, ◌∙◌, subst, append-nil, arith}
use Rattle.std.proofs.lemmas.Bool.{and_right, both_ways, eq-eqb, eqb-true, ltb-true, and_from, or_right}
use Rattle.rules.proofs.Ranked.{Code, Entry, State, enters, same_entry, slots, fresh}
use Rattle.rules.proofs.RankedSteps as Steps
use Rattle.rules.proofs.RankedSteps.{Call, Write, Ask, Collect, Deliver, Apply, Encode, Sweep, Tag, Found, turn, unless, write_refusal, entered, counted, reading, elements, write_tag, write_done, write, step, after}
use Rattle.rules.proofs.Words.{upd_same, every_at, enters_push}
use Rattle.std.proofs.ByRecursion.{All-push, All-weaker}
use Rattle.rules.proofs.RankedFacts.{Lawful, Allowed, accepted_by}
use Rattle.rules.proofs.Calls.{checked}
use Rattle.rules.proofs.Source.{write_sourced}
use Rattle.rules.proofs.Algebra.{Cells, no_cells, no_mix}
use Rattle.rules.proofs.Values.{OfEntry, OfTag}
use Rattle.rules.proofs.Valuing.{write_valued}
use Rattle.rules.proofs.Cases.{write_cases}
use Rattle.rules.proofs.Always.{step_stands, fresh_stands}
use Rattle.rules.proofs.Growing.{ToldRight, step_told, cells_grow, sourced_grow, valued_grow, kept_new, new_tag, rises}

pub checked_write : (g : Code) (S : State) (s x : ℕ) (v : List ℕ) → write_refusal g S s x v ≡ 0 → (s < g.n) × (length v ≡ g.w) × (elements g v ≡ true)
unfolding write_refusal
checked_write g S s x v e =
    let a = checked (ltb s g.n) 7 _ (omega arith) e in
    let b = checked (ltb x g.k) 8 _ (omega arith) a.1 in
    let c = checked (eqb (length v) g.w) 9 _ (omega arith) b.1 in
    let d = checked (elements g v) 11 _ (omega arith) c.1 in
    (ltb-true s g.n a.0, eqb-true (length v) g.w c.0, d.0)

pub top_after : (g : Code) (S : State) (s x : ℕ) (v : List ℕ) → (S.servers s).top + 1 ≤ ((write_done g S s x v).servers s).top
unfolding write_done reading entered counted
top_after g S s x v = rw (upd_same S.servers s _) (omega arith)

written_next : (g : Code) (S : State) (s x : ℕ) (v : List ℕ) → write_refusal g S s x v ≡ 0 → (write g S s x v).next ≡ write_done g S s x v
unfolding write
written_next g S s x v e = ap (λ (r : ℕ). (unless r S (turn (Tag (write_tag g (S.servers s) s)) (write_done g S s x v))).next) e

module _ (g : Code) (R : Lawful g) (L : List Entry) (S : State) (h : ToldRight g R L S) where
  some_server : 0 < g.n
  some_server = let w = R.servers in omega arith

  write_told : (s x : ℕ) (v : List ℕ) (f : Found) → write_refusal g S s x v ≡ 0 → ToldRight g R (L ++ record { object = x; tag = write_tag g (S.servers s) s; value = v } ∷ []) (write_done g S s x v)
  write_told s x v f ok = subst (ToldRight g R N) (written_next g S s x v ok) (record {
    stands = step_stands g R S (record { call = Write s x v; found = f }) h.stands;
    cells = cells;
    sourced = write_sourced g (OfEntry g R N) (OfTag g R N) (λ d q. q.0) (λ y. refl) S (sourced_grow g R L e pos S h.sourced) s x v (λ _. (
      or_right (eqb e.tag 0) (enters N x e.tag) (enters_push L e x e.tag ∙ or_right (enters L x e.tag) (same_entry x e.tag e) (and_from (eqb x x) (eqb e.tag e.tag) (eq-eqb x x refl) (eq-eqb e.tag e.tag refl))),
      sym (kept_new g L e pos (new_tag L s (S.servers s).top x (let l = R.few in let m = w.0 in omega arith) (h.tops s w.0))),
    ));
    valued = write_valued g R N cells S h.stands.fine (sourced_grow g R L e pos S h.sourced) (valued_grow g R L e pos S h.sourced h.valued) s x v;
    tops = λ i inn. All-push (λ d. (d.tag % 6 ≡ i) → d.tag / 6 ≤ ((write g S s x v).next.servers i).top) L e
        (All-weaker (λ d. (d.tag % 6 ≡ i) → d.tag / 6 ≤ (S.servers i).top) (λ d. (d.tag % 6 ≡ i) → d.tag / 6 ≤ ((write g S s x v).next.servers i).top)
        (λ d q z. let a = q z in let b = rises g S (Write s x v) f i in omega arith) L (h.tops i inn))
        (λ z. let si : s ≡ i = server_of i z in rw (← si, written_next g S s x v ok) (let t = top_after g S s x v in let hi = height_of in omega arith));
  })
    where
      e : Entry
      e = record { object = x; tag = write_tag g (S.servers s) s; value = v }

      N : List Entry
      N = L ++ e ∷ []

      w : (s < g.n) × (length v ≡ g.w) × (elements g v ≡ true)
      w = checked_write g S s x v ok

      pos : 0 < e.tag
      pos = omega arith

      cells : Cells g R N
      cells = cells_grow g R L e pos h.cells w.1 (λ c lt. ltb-true (get_or v c 0) g.q (every_at g.w (λ c. ltb (get_or v c 0) g.q) w.2 c lt))

      server_of : (i : ℕ) → e.tag % 6 ≡ i → s ≡ i
      server_of i z = let l = R.few in let m = w.0 in omega arith

      height_of : e.tag / 6 ≡ (S.servers s).top + 1
      height_of = let l = R.few in let m = w.0 in omega arith

  nothing_new : (m : Steps.Move) → Allowed g S m.call m.found → ((s x : ℕ) (v : List ℕ) → m.call ≡ Write s x v → ⊥) → ToldRight g R (L ++ []) (after g S m)
  nothing_new m ok no_write = rw (append-nil L) (step_told g R L S h m ok no_write)

  pub move_told : (c : Call) (f : Found) → Allowed g S c f → ToldRight g R (L ++ accepted_by c (step g S c f).answer) (step g S c f).next
  move_told (Write s x v) f ok = write_cases g S (λ t. ToldRight g R (L ++ accepted_by (Write s x v) t.answer) t.next) (λ r. rw (append-nil L) h) s x v (λ e. write_told s x v f e)
  move_told (Ask s x l) f ok = nothing_new (record { call = Ask s x l; found = f }) ok (λ i y v e. let z : ◌≡◌ {A = ℕ} 0 1 = cc in omega arith)
  move_told (Collect s m l) f ok = nothing_new (record { call = Collect s m l; found = f }) ok (λ i y v e. let z : ◌≡◌ {A = ℕ} 0 1 = cc in omega arith)
  move_told (Deliver a b) f ok = nothing_new (record { call = Deliver a b; found = f }) ok (λ i y v e. let z : ◌≡◌ {A = ℕ} 0 1 = cc in omega arith)
  move_told (Apply s) f ok = nothing_new (record { call = Apply s; found = f }) ok (λ i y v e. let z : ◌≡◌ {A = ℕ} 0 1 = cc in omega arith)
  move_told (Encode s x) f ok = nothing_new (record { call = Encode s x; found = f }) ok (λ i y v e. let z : ◌≡◌ {A = ℕ} 0 1 = cc in omega arith)
  move_told (Sweep s x) f ok = nothing_new (record { call = Sweep s x; found = f }) ok (λ i y v e. let z : ◌≡◌ {A = ℕ} 0 1 = cc in omega arith)

pub fresh_told : (g : Code) (R : Lawful g) → ToldRight g R [] (fresh g)
fresh_told g R = record {
  stands = fresh_stands g R;
  cells = no_cells g R;
  sourced = record { servers = λ s. record { own = λ x. refl; history = tt; waiting = tt; reads = λ i y. refl }; lanes = λ a b. tt };
  valued = record { servers = λ s sn. record { symbol = no_mix g R s sn; object = λ i e. absurd (both_ways (ltb i slots && false) (and_right (ltb i slots) false refl) e); hand = λ i e. absurd (both_ways (ltb i slots && false) (and_right (ltb i slots) false refl) e) }; lanes = λ a b an bn ne. tt };
  tops = λ s sn. tt;
}
