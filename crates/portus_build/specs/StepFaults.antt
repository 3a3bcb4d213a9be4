-- What a refusal of one step of building is as a refusal of building.
use Rattle.ccp_base.specs.Outside.{no_memory}
use Rattle.portus_parser.specs.declared.fault.ParseFault.{ParseFault}
use Rattle.portus_parser.specs.declared.fault.ParseFault.TheVariants as parse
use Rattle.scope_types.specs.declared.fault.ScopeFault.{ScopeFault}
use Rattle.scope_types.specs.declared.fault.ScopeFault.TheVariants as scope
use Rattle.reg_compiler.specs.declared.fault.CompileFault.{CompileFault}
use Rattle.reg_compiler.specs.declared.fault.CompileFault.TheVariants as compile
use Rattle.portus_build.specs.declared.fault.BuildFault.{BuildFault}
use Rattle.portus_build.specs.declared.fault.BuildFault.TheVariants.{Parse, Scope, Compile, NoMemory}

-- a refusal of reading; out of memory in any step is out of memory of building
abbrev pub parse_fault : ParseFault → BuildFault
parse_fault (parse.NoMemory _) = NoMemory no_memory
parse_fault fault = Parse fault

-- a refusal of scoping
abbrev pub scope_fault : ScopeFault → BuildFault
scope_fault (scope.NoMemory _) = NoMemory no_memory
scope_fault fault = Scope fault

-- a refusal of compiling
abbrev pub compile_fault : CompileFault → BuildFault
compile_fault (compile.NoMemory _) = NoMemory no_memory
compile_fault fault = Compile fault
