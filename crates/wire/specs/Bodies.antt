-- What is written of a body. Assumes nothing.
use Rattle.std.specs.Prelude.{ℕ, List}
use Rattle.terms.specs.Items.{items}
use Rattle.wire.specs.declared.body.Body.{Body}

abbrev pub body_so_far : Body → List ℕ
body_so_far b = items b.bytes
