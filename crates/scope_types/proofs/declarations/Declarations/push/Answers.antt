use Rattle.std.proofs.Common.{◌≡◌, ◌++◌, ◌∷◌, [], OnOk, bytes_eq, ap, ◌∙◌, sym, subst}
use Rattle.portus_core.specs.declared.program.Decl.{Decl}
use Rattle.indexmap.specs.IndexSet.{insert_key}
use Rattle.scope_types.proofs.DeclarationsFound.{inserted}
use Rattle.scope_types.proofs.declarations.Declarations.push.Goals as goal
use Rattle.scope_types.proofs.declarations.Declarations.push.Goals.{in-Ok, in-Err}

pub returns-clause-ok : goal.returns-clause-ok
returns-clause-ok c =
    let pushed = c.insert.new.self.keys ≡ c.args.self.now ++ c.args.decl ∷ [] in
    elim c.match-insert.branch [
      | in-Ok w ↦
          subst (λ r. OnOk r pushed) (sym w.result-is)
          (w.in-Ok.ensures.keys
          ∙ ap (λ ks. insert_key (λ (a b : Decl). bytes_eq a.name b.name) ks c.args.decl) c.self.view_is
          ∙ inserted c.args.self.now c.args.decl c.requires)
      | in-Err w ↦ subst (λ r. OnOk r pushed) (sym w.result-is) tt
    ]
