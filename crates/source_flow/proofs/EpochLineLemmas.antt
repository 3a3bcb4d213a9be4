-- The lines of a flow's epochs.
use Rattle.std.specs.Prelude.{◌≡◌, List, [], ◌∷◌, ◌++◌, map}
use Rattle.std.proofs.Common.{ap, sym, ◌∙◌}
use Rattle.std.proofs.lemmas.List.{map-append}
use Rattle.flow_core.specs.World.{Era}
use Rattle.flow_core.specs.Books.{epoch_line}
use Rattle.flow_core.specs.declared.book.EpochLine.{EpochLine}

-- the lines of epochs, of which the last one is another
pub epoch_lines-last : (past : List Era) (one other : Era) → epoch_line one ≡ epoch_line other
    → map epoch_line (past ++ one ∷ []) ≡ map epoch_line (past ++ other ∷ [])
epoch_lines-last past one other same =
    map-append epoch_line past (one ∷ [])
    ∙ ap (λ (line : EpochLine). map epoch_line past ++ line ∷ []) same
    ∙ sym (map-append epoch_line past (other ∷ []))

-- the lines of epochs and of one more
pub epoch_lines-more : (past : List Era) (one other : Era)
    → map epoch_line ((past ++ one ∷ []) ++ other ∷ []) ≡ map epoch_line (past ++ one ∷ []) ++ epoch_line other ∷ []
epoch_lines-more past one other = map-append epoch_line (past ++ one ∷ []) (other ∷ [])
