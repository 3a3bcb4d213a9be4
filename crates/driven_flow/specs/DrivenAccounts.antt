-- What the live text shows of a driven flow, as the code has it: of its state over the codes, each fault with the place
-- of its instruction.
use Rattle.std.specs.Prelude.{ℕ, List, [], ◌∷◌, ◌++◌, length, map}
use Rattle.reg_compiler.specs.declared.built.Built.{Built}
use Rattle.flow_core.specs.Books.{ticket_line, epoch_line}
use Rattle.flow_core.specs.LiveText.{Account, end_of}
use Rattle.flow_core.specs.World.{notice_of, track_of}
use Rattle.live_lines.specs.FaultPlaces.{placed}
use Rattle.driven_flow.specs.Driven.{DrivenState, flow_by, world_by, placed_in}

abbrev pub account_by : List (ℕ × Built) → DrivenState → Account
account_by programs s = record {
  epochs = map epoch_line ((world_by s).past ++ (world_by s).present ∷ []);
  faults = map (placed (placed_in programs)) (map (notice_of (flow_by s)) (world_by s).faults);
  tickets = map (ticket_line (flow_by s)) (world_by s).answered;
  held = (world_by s).held;
  program = (world_by s).present.program;
  end = end_of (length (world_by s).acks) (track_of (flow_by s) (world_by s));
}
