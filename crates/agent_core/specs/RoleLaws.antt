-- The programs of an agent, which no reply changes.
use Rattle.std.specs.Prelude.{◌≡◌}
use Rattle.ccp_base.specs.declared.look.Role.{Role}
use Rattle.ccp_base.specs.declared.course.Course.{Course}

-- the roles of a course
pub record AreRoles (ss ca : Role) (course : Course) : Type 0 where
  pub ss_same : course.ss ≡ ss
  pub ca_same : course.ca ≡ ca
