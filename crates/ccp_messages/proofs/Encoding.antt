-- The length of a message's frame, and the bytes of a code in it.
use Rattle.std.proofs.Common.{◌≡◌, ℕ, ◌++◌, length, refl, sym, ap, ◌∙◌}
use Rattle.std.specs.Prelude.{map}
use Rattle.std.specs.List.{flat_map}
use Rattle.std.specs.Int.{w32, to_le_bytes}
use Rattle.std.proofs.lemmas.List.Folds.{flat_map-map}
use Rattle.reg_code.specs.declared.code.Code.{Code}
use Rattle.reply_frames.specs.declared.outline.Version.{Version}
use Rattle.reply_frames.specs.declared.outline.Version.TheVariants.{One}
use Rattle.reply_frames.specs.Kinds.{size_of}
use Rattle.reply_frames.specs.FrameBytes.{start_bytes, event_bytes, instruction_bytes, body_bytes, kind_of_body, body_counts}
use Rattle.reply_frames.proofs.FrameSizes.{HasPrimitives, length-spelled}
use Rattle.ccp_messages.specs.declared.message.Message.{Message}
use Rattle.ccp_messages.specs.declared.message.Message.TheVariants.{Create, Measure, Install, Update, Change, Fault, Refused}
use Rattle.ccp_messages.specs.declared.message.Message.TheVariants as message
use Rattle.ccp_messages.specs.CodeParts.{start_part, event_part, instruction_part, starts_bytes, events_bytes, instrs_bytes, code_body}
use Rattle.ccp_messages.specs.Messages.{message_flow, message_body, frame_bytes}

has-primitives : (m : Message) → HasPrimitives (message_body m)
has-primitives (Create flow mss cwnd) = tt
has-primitives (Measure report) = tt
has-primitives (Install flow program code) = tt
has-primitives (Update flow values) = tt
has-primitives (Change flow program values) = tt
has-primitives (Fault notice) = tt
has-primitives (message.Ack flow ack) = refl
has-primitives (Refused flow reason index) = tt

pub length-frame : (version : Version) (m : Message) → length (frame_bytes version m) ≡ size_of (kind_of_body (message_body m)) version (body_counts (message_body m))
length-frame version m = length-spelled version (message_flow m) (message_body m) (has-primitives m)

pub code-bytes : (program : ℕ) (code : Code)
    → to_le_bytes w32 program ++ starts_bytes code.reports ++ starts_bytes code.controls ++ events_bytes code.events ++ instrs_bytes code.instrs ≡ body_bytes One (code_body program code)
code-bytes program code =
    let front = to_le_bytes w32 program in
    ap (λ xs. front ++ xs ++ starts_bytes code.controls ++ events_bytes code.events ++ instrs_bytes code.instrs) (sym (flat_map-map start_bytes start_part code.reports))
    ∙ ap (λ xs. front ++ flat_map start_bytes (map start_part code.reports) ++ xs ++ events_bytes code.events ++ instrs_bytes code.instrs) (sym (flat_map-map start_bytes start_part code.controls))
    ∙ ap (λ xs. front ++ flat_map start_bytes (map start_part code.reports) ++ flat_map start_bytes (map start_part code.controls) ++ xs ++ instrs_bytes code.instrs) (sym (flat_map-map event_bytes event_part code.events))
    ∙ ap (λ xs. front ++ flat_map start_bytes (map start_part code.reports) ++ flat_map start_bytes (map start_part code.controls) ++ flat_map event_bytes (map event_part code.events) ++ xs) (sym (flat_map-map instruction_bytes instruction_part code.instrs))
