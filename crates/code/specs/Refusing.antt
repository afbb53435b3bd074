-- When the calls on a code are refused. Checks run in the order of the refusals' numbers. Assumes nothing.
use Rattle.std.specs.Prelude.{ℕ, Bool, not, ◌&&◌, ◌||◌, List, length, None, Option, ◌==◌, nat_eq, nat_lt}
use Rattle.terms.specs.declared.refusal.Refusal.{Refusal}
use Rattle.terms.specs.declared.refusal.Refusal.TheVariants.{NoSuchServer, NoSuchObject, WrongLength, NoElement}
use Rattle.terms.specs.Answers.{unless}
use Rattle.terms.specs.Limits.{max_servers}
use Rattle.terms.specs.Lists.{every}
use Rattle.std.specs.List.{list_all}
use Rattle.code.specs.Codings.{Coding}
use Rattle.code.specs.Layout.{all_elements}

-- each server of the set is one of the code's
abbrev pub known_set : ℕ → (ℕ → Bool) → Bool
known_set n set = every max_servers (λ s. not (set s) || nat_lt s n)

-- each value has one number for each cell
abbrev pub all_long : ℕ → List (List ℕ) → Bool
all_long w vs = list_all (λ v. nat_eq (length v) w) vs

-- each value has elements only
abbrev pub all_in_field : ℕ → List (List ℕ) → Bool
all_in_field q vs = list_all (λ v. all_elements q v) vs

-- n values of the code's cells, all of them elements
abbrev pub values_refusal : Coding → ℕ → List (List ℕ) → Option Refusal
values_refusal g n vs =
    unless (length vs == n && all_long g.cells vs) WrongLength
    (unless (all_in_field g.arithmetic.size vs) NoElement None)

abbrev pub place_refusal : Coding → ℕ → ℕ → Option Refusal
place_refusal g s x = unless (nat_lt s g.servers) NoSuchServer (unless (nat_lt x g.objects) NoSuchObject None)

abbrev pub symbol_refusal : Coding → ℕ → List (List ℕ) → Option Refusal
symbol_refusal g s vs = unless (nat_lt s g.servers) NoSuchServer (values_refusal g g.objects vs)

abbrev pub re_encode_refusal : Coding → ℕ → ℕ → List (List ℕ) → Option Refusal
re_encode_refusal g s x vs = unless (nat_lt s g.servers) NoSuchServer (unless (nat_lt x g.objects) NoSuchObject (values_refusal g 3 vs))

abbrev pub recovers_refusal : Coding → (ℕ → Bool) → ℕ → Option Refusal
recovers_refusal g set x = unless (known_set g.servers set) NoSuchServer (unless (nat_lt x g.objects) NoSuchObject None)

abbrev pub decode_refusal : Coding → (ℕ → Bool) → List (List ℕ) → ℕ → Option Refusal
decode_refusal g set symbols x =
    unless (known_set g.servers set) NoSuchServer
    (unless (nat_lt x g.objects) NoSuchObject (values_refusal g g.servers symbols))
