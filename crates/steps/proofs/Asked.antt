-- The value of an own tag that is asked for. Assumes nothing.
use Rattle.std.proofs.Common.{◌≡◌, ℕ, Bool, false, cond, List, None, Option, sym, ap, ◌∙◌}
use Rattle.rules.specs.State.{Layout, Server, internal}
use Rattle.rules.specs.Turns.{Outcome}
use Rattle.rules.specs.Updates.{is_open}
use Rattle.steps.specs.Encoding.{ask_by, ask_local}
use Rattle.steps.specs.Local.{Local, local}

pub ask_is : (l : Layout) (p : Server) (s x : ℕ) (alone found : Option (List ℕ)) (free : Bool) (q : Local) → false ≡ is_open (p.reads (internal x)) → alone ≡ found → q ≡ ask_by l p s x free found
    → q ≡ ask_local l p s x alone free
ask_is l p s x alone found free q closed same is =
    is ∙ sym (ap (ask_by l p s x free) same) ∙ ap (λ b. cond b (local (Outcome 2) p None) (ask_by l p s x free alone)) closed
