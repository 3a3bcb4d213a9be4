-- The text that says why a text is built into no code: a name, and the place if there is one.
use Rattle.std.specs.Prelude.{ℕ, Option, Some, None, List, [], codes, decimal}
use Rattle.ccp_base.specs.Text.{◌⧺◌}
use Rattle.ccp_base.specs.declared.place.Place.{Place}
use Rattle.portus_parser.specs.declared.fault.ParseFault.{ParseFault}
use Rattle.portus_parser.specs.declared.fault.ParseFault.TheVariants as parse
use Rattle.scope_types.specs.declared.fault.ScopeFault.{ScopeFault}
use Rattle.scope_types.specs.declared.fault.ScopeFault.TheVariants as scope
use Rattle.scope_types.specs.declared.fault.What.{What}
use Rattle.scope_types.specs.declared.fault.What.TheVariants.{Fields, Controls, Locals, Blocks}
use Rattle.reg_compiler.specs.declared.fault.CompileFault.{CompileFault}
use Rattle.reg_compiler.specs.declared.fault.CompileFault.TheVariants as compile
use Rattle.portus_build.specs.declared.fault.BuildFault.{BuildFault}
use Rattle.portus_build.specs.declared.fault.BuildFault.TheVariants as build

-- the name of a refusal of reading
abbrev pub parse_name : ParseFault → List ℕ
parse_name parse.SourceTooLong = codes "SourceTooLong"
parse_name (parse.NotText place) = codes "NotText"
parse_name (parse.Unexpected place) = codes "Unexpected"
parse_name (parse.BadNumeral place) = codes "BadNumeral"
parse_name (parse.BadName place) = codes "BadName"
parse_name (parse.Nesting place) = codes "Nesting"
parse_name (parse.Unclosed place) = codes "Unclosed"
parse_name (parse.NoMemory _) = codes "NoMemory"

-- its place: a text that is too long has none
abbrev pub parse_place : ParseFault → Option Place
parse_place parse.SourceTooLong = None
parse_place (parse.NotText place) = Some place
parse_place (parse.Unexpected place) = Some place
parse_place (parse.BadNumeral place) = Some place
parse_place (parse.BadName place) = Some place
parse_place (parse.Nesting place) = Some place
parse_place (parse.Unclosed place) = Some place
parse_place (parse.NoMemory _) = None

-- what a program has too many of
abbrev pub too_many_name : What → List ℕ
too_many_name Fields = codes "TooMany fields"
too_many_name Controls = codes "TooMany controls"
too_many_name Locals = codes "TooMany locals"
too_many_name Blocks = codes "TooMany blocks"

-- the name of a refusal of the forms
abbrev pub scope_name : ScopeFault → List ℕ
scope_name (scope.Unknown place) = codes "Unknown"
scope_name (scope.Twice place) = codes "Twice"
scope_name (scope.NotWritable place) = codes "NotWritable"
scope_name (scope.Kind place) = codes "Kind"
scope_name (scope.Misplaced place) = codes "Misplaced"
scope_name (scope.Micros place) = codes "Micros"
scope_name (scope.TooMany place what) = too_many_name what
scope_name (scope.NoMemory _) = codes "NoMemory"

-- its place
abbrev pub scope_place : ScopeFault → Option Place
scope_place (scope.Unknown place) = Some place
scope_place (scope.Twice place) = Some place
scope_place (scope.NotWritable place) = Some place
scope_place (scope.Kind place) = Some place
scope_place (scope.Misplaced place) = Some place
scope_place (scope.Micros place) = Some place
scope_place (scope.TooMany place what) = Some place
scope_place (scope.NoMemory _) = None

-- a place: its line, a colon and its column
abbrev pub place_text : Option Place → List ℕ
place_text None = []
place_text (Some place) = codes " at " ⧺ decimal place.line ⧺ codes ":" ⧺ decimal place.column

-- a refusal of compiling: the place of what needs too much, or the count of the program
abbrev pub compile_text : CompileFault → List ℕ
compile_text (compile.TooDeep place) = codes "TooDeep at " ⧺ decimal place.line ⧺ codes ":" ⧺ decimal place.column
compile_text (compile.CodeTooLong count) = codes "CodeTooLong " ⧺ decimal count
compile_text (compile.NoMemory _) = codes "NoMemory"

-- why a text is built into no code
abbrev pub refusal_text : BuildFault → List ℕ
refusal_text (build.Parse fault) = parse_name fault ⧺ place_text (parse_place fault)
refusal_text (build.Scope fault) = scope_name fault ⧺ place_text (scope_place fault)
refusal_text (build.Compile fault) = compile_text fault
refusal_text (build.NoMemory _) = codes "NoMemory"
