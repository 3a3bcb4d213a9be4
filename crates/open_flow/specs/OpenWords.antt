-- The history of a flow of a rollout as a word, and the state after a word.
use Rattle.std.specs.Prelude.{Bool, true, not, ◌&&◌, nat_lt, is_some, List, [], ◌∷◌, length}
use Rattle.link_model.specs.Link.{ack_after}
use Rattle.scene_members.specs.declared.open_case.OpenCase.{OpenCase}
use Rattle.ccp_base.specs.declared.ack.Ack.{Ack}
use Rattle.open_flow.specs.declared.letter.OpenLetter.{OpenLetter}
use Rattle.open_flow.specs.declared.letter.OpenLetter.TheVariants.{A, I, G}
use Rattle.open_flow.specs.OpenWorld.{OpenWorld, opening, cwnd_of, next_entry}
use Rattle.open_flow.specs.OpenWorld.{after_ack, with_next_entry, after_change}

-- the link's next acknowledgement: for the windows so far and the present `Cwnd`
abbrev pub next_ack : OpenCase → OpenWorld → Ack
next_ack case w = ack_after case.link w.windows (cwnd_of case w)

-- the state after one more letter: A is an acknowledgement, I an entry that is installed, G a change
abbrev pub after_letter : OpenCase → OpenWorld → OpenLetter → OpenWorld
after_letter case w A = after_ack case (next_ack case w) w
after_letter case w I = with_next_entry case w
after_letter case w G = after_change case w

abbrev pub world_from : OpenCase → OpenWorld → List OpenLetter → OpenWorld
world_from case w [] = w
world_from case w (letter ∷ rest) = world_from case (after_letter case w letter) rest

-- the state after a word
abbrev pub install_world : OpenCase → List OpenLetter → OpenWorld
install_world case word = world_from case opening word

-- ---- legal and complete words

-- an acknowledgement while fewer than the case's are in; an entry while there are fewer than steps; a change while an
-- accepted entry hasn't been started
abbrev pub is_legal : OpenCase → OpenWorld → OpenLetter → Bool
is_legal case w A = nat_lt (length w.acks) case.acks
is_legal case w I = nat_lt (length w.entries) (length case.steps)
is_legal case w G = is_some (next_entry w)

abbrev pub legal_from : OpenCase → OpenWorld → List OpenLetter → Bool
legal_from case w [] = true
legal_from case w (letter ∷ rest) = is_legal case w letter && legal_from case (after_letter case w letter) rest

-- each letter is legal at its point
abbrev pub legal : OpenCase → List OpenLetter → Bool
legal case word = legal_from case opening word

-- all acknowledgements are in, all steps have entries, and no change is legal
abbrev pub is_complete : OpenCase → OpenWorld → Bool
is_complete case w = not (is_legal case w A) && not (is_legal case w I) && not (is_legal case w G)
