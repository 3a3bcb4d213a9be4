-- The fields of programs have plain names.
use Rattle.std.proofs.Common.{◌≡◌, ℕ, Bool, true, false, not, ◌&&◌, ◌==◌, List, [], ◌∷◌, refl, ap, sym, ◌∙◌, cond}
use Rattle.std.specs.List.{list_all}
use Rattle.std.proofs.lemmas.Bool.{and_parts, and_from, eqb-true, false≢true}
use Rattle.ccp_base.specs.declared.parts.Separator.TheVariants.{LineFeed}
use Rattle.portus_core.specs.declared.program.Decl.{Decl}
use Rattle.portus_core.specs.declared.program.Program.{Program}
use Rattle.portus_core.specs.ProgramForm.{form_of}
use Rattle.portus_core.specs.Words.{is_first, is_later, is_name_shaped, is_field_name}
use Rattle.portus_core.specs.ValidPrograms.{are_declared, is_start, is_named_in}
use Rattle.reg_compiler.specs.declared.built.Built.{Built}
use Rattle.flow_core.specs.LiveText.{source_at, fields_at}
use Rattle.reg_compiler.specs.Sources.{sources_of}
use Rattle.run_audit.proofs.Pieces.{IsPlain, plain-of}
use Rattle.run_audit.proofs.LineReadings.{ArePlainly, HasPlainNames}

-- a kind of bytes of which the line's end is none
no_feed : (p : ℕ → Bool) → p 10 ≡ false → (b : ℕ) → p b ≡ true → not (b == 10) ≡ true
no_feed p other b is = go (b == 10) refl
  where
    go : (t : Bool) → b == 10 ≡ t → not t ≡ true
    go true same = let e : b ≡ 10 = eqb-true b 10 same in absurd (false≢true (sym other ∙ ap p (sym e) ∙ is))
    go false same = refl

shaped-plain : (name : List ℕ) → is_name_shaped name ≡ true → IsPlain LineFeed name
shaped-plain [] is = record { plain = refl }
shaped-plain (c ∷ rest) is =
    let parts = and_parts (is_first c) (list_all is_later rest) is in
    record {
      plain = and_from (not (c == 10)) (list_all (λ b. not (b == 10)) rest) (no_feed is_first refl c parts.0)
          (plain-of LineFeed is_later rest (no_feed is_later refl) parts.1).plain;
    }

field-plain : (name : List ℕ) → is_field_name name ≡ true → IsPlain LineFeed name
field-plain name is = shaped-plain name (and_parts (is_name_shaped name) _ is).0

fields-plain : (decls : List Decl) → are_declared is_field_name decls ≡ true → ArePlainly decls
fields-plain [] is = tt
fields-plain (decl ∷ rest) is =
    let own = is_field_name decl.name && is_start decl in
    let parts = and_parts (own && not (is_named_in decl.name rest)) (are_declared is_field_name rest) is in
    let here = and_parts own (not (is_named_in decl.name rest)) parts.0 in
    (field-plain decl.name (and_parts (is_field_name decl.name) (is_start decl) here.0).0, fields-plain rest parts.1)

program-plain : (program : Program) → ArePlainly (form_of program).fields
program-plain program = fields-plain program.fields.items (and_parts (are_declared is_field_name program.fields.items) _ program.declared).0

at-plain : (programs : List (ℕ × Built)) (number : ℕ) → ArePlainly (fields_at (sources_of programs) number)
at-plain [] number = tt
at-plain (one ∷ rest) number = go (one.0 == number) (at-plain rest number)
  where
    go : (b : Bool) → ArePlainly (source_at (sources_of rest) number).fields → ArePlainly (cond b (form_of one.1.program) (source_at (sources_of rest) number)).fields
    go true later = program-plain one.1.program
    go false later = later

pub names_plain : (programs : List (ℕ × Built)) → HasPlainNames (sources_of programs)
names_plain programs = record { at = at-plain programs }
