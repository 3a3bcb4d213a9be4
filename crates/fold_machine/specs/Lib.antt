-- The definitions of fold_machine, a file each. Public contracts cite MachineState and Heard; RestLaws has what follows
-- from MachineState, for proofs. The others are for private contracts and for the invariants of types.
pub mod Store
pub mod Layout
pub mod WorkingWords
pub mod Running
pub mod KeptWords
pub mod Ready
pub mod MachineState
pub mod Heard
pub mod RestLaws
pub mod Whole
pub mod FlatRun
pub mod Works
pub mod StepForms
pub mod FlatWay
