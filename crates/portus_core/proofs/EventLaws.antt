-- That events can be taken one after another.
use Rattle.std.specs.Prelude.{◌≡◌, List, [], ◌∷◌, ◌++◌, refl}
use Rattle.portus_core.specs.Epoch.{Event, Reading, Track, after_event, after}

-- later events start from the state that the earlier ones left
pub after-append : {F : Type 0} (reading : Reading F) (earlier later : List Event) (track : Track) → after reading (earlier ++ later) track ≡ after reading later (after reading earlier track)
after-append reading [] later track = refl
after-append reading (event ∷ rest) later track = after-append reading rest later (after_event reading event track)
