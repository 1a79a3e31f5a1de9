-- What holds of every reading.
use Rattle.std.proofs.Common.{Bool, true, false, if◌then◌else◌, ℕ, List, ◌++◌, refl}
use Rattle.h3_field.specs.Reading.{Reading, Whole, Unfinished, Bad, then_read, Stays, IsStable}

-- two stable readings, one behind the other
stays_then : {A B : Type 0} (more : List ℕ) (first later : Reading A) (next : A → List ℕ → Reading B) → ((value : A) → IsStable (next value)) → Stays more first later → Stays more (then_read first next) (then_read later next)
stays_then more (Whole value rest) later next stable h = rw h (stable value rest more)
stays_then more Unfinished later next stable h = tt
stays_then more Bad later next stable h = rw h refl

pub then_stable : {A B : Type 0} (read : List ℕ → Reading A) (next : A → List ℕ → Reading B) → IsStable read → ((value : A) → IsStable (next value)) → IsStable (λ bytes. then_read (read bytes) next)
then_stable read next first second bytes more = stays_then more (read bytes) (read (bytes ++ more)) next second (first bytes more)

pub stays_if : {A : Type 0} (more : List ℕ) (b : Bool) (x y x' y' : Reading A) → Stays more x x' → Stays more y y' → Stays more (if b then x else y) (if b then x' else y')
stays_if more true x y x' y' p q = p
stays_if more false x y x' y' p q = q
