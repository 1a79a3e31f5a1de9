use Rattle.h3_field.specs.SecretLaws.{guarded_name, guarded_value, guarded_flag, unguarded}
use Rattle.h3_field.proofs.laws.secrets_are_flagged.Goals as goal

pub returns-clause-name : goal.returns-clause-name
returns-clause-name c = guarded_name

pub returns-clause-value : goal.returns-clause-value
returns-clause-value c = guarded_value

pub returns-clause-flag : goal.returns-clause-flag
returns-clause-flag c = guarded_flag

pub returns-clause-off : goal.returns-clause-off
returns-clause-off c = unguarded
