-- What an installer makes of the flow whose lock it holds.
use Rattle.std.specs.Prelude.{◌≡◌, ◌↔◌, ℕ, Bool, true, false, Option, Some, None, IfSome, ◌∷◌, [], ◌++◌, slice_get}
use Rattle.scene_members.specs.declared.open_case.OpenCase.{OpenCase}
use Rattle.open_flow.specs.declared.entry.Entry.{Entry}
use Rattle.open_flow.specs.declared.letter.OpenLetter.TheVariants.{G}
use Rattle.open_flow.specs.OpenCells.{OpenState, IsNextEntry, with_entry, next_step}

-- the entry that was built, if there is one, has the text of this step of the case
abbrev pub IsTextOf : OpenCase → ℕ → Option Entry → Type 0
IsTextOf case step built = IfSome built (λ entry. slice_get case.steps step ≡ Some entry.text)

-- the entry was installed if and only if it is the next one; else nothing changes
abbrev pub HasInstalled : OpenState → OpenState → Entry → Bool → Type 0
HasInstalled before after entry is_next =
    ((is_next ≡ true) ↔ IsNextEntry before entry)
    × (is_next ≡ true → after ≡ with_entry before entry) × (is_next ≡ false → after ≡ before)

-- the flow was changed if and only if there is a program to change to; else nothing changes
abbrev pub HasChanged : OpenState → OpenState → Bool → Type 0
HasChanged before after changed =
    ((changed ≡ false) ↔ (next_step before ≡ None))
    × (changed ≡ true → after ≡ record before { word = before.word ++ G ∷ [] }) × (changed ≡ false → after ≡ before)
