-- The code that a `Code` stands for. Assumes nothing.
use Rattle.terms.specs.Items.{items}
use Rattle.field.specs.Arithmetic.{Arithmetic}
use Rattle.code.specs.declared.code.Code.{Code}
use Rattle.code.specs.Codings.{Coding}
use Rattle.code.specs.Layout.{coding}

abbrev pub meaning : {F : Type 0} → Arithmetic → Code F → Coding
meaning a c = coding a c.servers c.objects c.cells (items c.table)
