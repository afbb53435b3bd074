-- Two messages as bytes. Assumes nothing.
use Rattle.std.specs.Prelude.{◌≡◌, ℕ, List, [], ◌∷◌, Ok}
use Rattle.message.specs.Meanings.{Meaning, write_notice, tag_notice}
use Rattle.wire.specs.Reading.{reading}
use Rattle.wire.specs.Writing.{encode}

-- object 0, tag (1, 0)
abbrev pub a_tag_notice : Meaning
a_tag_notice = tag_notice 0 (record { height = 1; server = 0 })

abbrev pub tag_notice_bytes : List ℕ
tag_notice_bytes = 128 ∷ 0 ∷ 0 ∷ 16 ∷ 0 ∷ 0 ∷ 0 ∷ 2 ∷ 0 ∷ 0 ∷ 0 ∷ 0 ∷ 0 ∷ 0 ∷ 0 ∷ 1 ∷ 0 ∷ 0 ∷ 0 ∷ 0 ∷ []

-- object 0, value 100, height 1, clock 1, 0, 0
abbrev pub a_write_notice : Meaning
a_write_notice = write_notice 0 (100 ∷ []) 1 (1 ∷ 0 ∷ 0 ∷ [])

abbrev pub write_notice_bytes : List ℕ
write_notice_bytes = 128 ∷ 0 ∷ 0 ∷ 36 ∷ 0 ∷ 0 ∷ 0 ∷ 1 ∷ 0 ∷ 0 ∷ 0 ∷ 0 ∷ 0 ∷ 0 ∷ 0 ∷ 1 ∷ 100 ∷ 0 ∷ 0 ∷ 0 ∷ 0 ∷ 0 ∷ 0 ∷ 1 ∷ 0 ∷ 0 ∷ 0 ∷ 3 ∷ 0 ∷ 0 ∷ 0 ∷ 1 ∷ 0 ∷ 0 ∷ 0 ∷ 0 ∷ 0 ∷ 0 ∷ 0 ∷ 0 ∷ []

-- what is to hold of them: written so, and read back
abbrev pub ByteFigures : Type 0
ByteFigures = (encode a_tag_notice ≡ tag_notice_bytes) × (encode a_write_notice ≡ write_notice_bytes) × (reading tag_notice_bytes ≡ Ok (a_tag_notice, 20)) × (reading write_notice_bytes ≡ Ok (a_write_notice, 40))
