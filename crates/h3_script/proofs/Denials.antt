-- Refused lines.
use Rattle.h3_script.specs.ScriptLine.{Denies}
use Rattle.h3_script.specs.declared.error.LineError.{LineError}
use Rattle.h3_script.specs.declared.error.LineError.TheVariants.{NoSuchLine, OutOfMemory}

-- what does not hold may be refused
pub denies_none : (P : Type 0) (e : LineError) → (P → ⊥) → Denies P e
denies_none P NoSuchLine f = f
denies_none P OutOfMemory f = tt

-- where the one would tell of the other, both are refused
pub denies_by : (P Q : Type 0) (e : LineError) → (Q → P) → Denies P e → Denies Q e
denies_by P Q NoSuchLine f d = λ q. d (f q)
denies_by P Q OutOfMemory f d = tt
