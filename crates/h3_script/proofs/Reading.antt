-- What one read more leaves of an input.
use Rattle.std.proofs.Common.{◌≡◌, ℕ, ◌+◌, ◌<◌, ◌≤◌, List, ◌++◌, length, take, Option, sym, ◌∙◌, ap, subst, arith, append-nil}
use Rattle.std.proofs.lemmas.List.{length-append, length-take-le}
use Rattle.std.proofs.KnownBytes.{Consumes-trans}
use Rattle.std.specs.Io.KnownBytes.{Consumes, IsAtEnd}
use Rattle.h3_script.specs.Inputs.{HasRead}

-- what a read that gives so many bytes tells of them
abbrev pub Gives : Option (List ℕ) → Option (List ℕ) → List ℕ → ℕ → Type 0
Gives mid new buffer count = Consumes mid new (take count buffer) × (count ≡ 0 → 0 < length buffer → IsAtEnd new)

-- a read that gives nothing ends the input
pub read_ended : (old mid new : Option (List ℕ)) (bytes buffer : List ℕ) (count : ℕ) → Consumes old mid bytes → Gives mid new buffer count → count ≡ 0 → 0 < length buffer
    → HasRead old new bytes
read_ended old mid new bytes buffer count taken gives none room =
    record {
      taken = subst (Consumes old new) (ap (λ n. bytes ++ take n buffer) none ∙ append-nil bytes) (Consumes-trans old mid new bytes (take count buffer) taken gives.0);
      all = λ _. gives.1 none room;
    }

-- what a read gives is put behind what was read
pub read_more : (old mid new : Option (List ℕ)) (bytes buffer next : List ℕ) (count : ℕ) → Consumes old mid bytes → Gives mid new buffer count → next ≡ bytes ++ take count buffer
    → Consumes old new next
read_more old mid new bytes buffer next count taken gives is = subst (Consumes old new) (sym is) (Consumes-trans old mid new bytes (take count buffer) taken gives.0)

-- a read that gives something leaves as many bytes as there were reads
pub round_more : (bytes buffer next : List ℕ) (count rounds : ℕ) → next ≡ bytes ++ take count buffer → rounds ≤ length bytes → count ≤ length buffer → (count ≡ 0 → ⊥)
    → rounds + 1 ≤ length next
round_more bytes buffer next count rounds is enough within some =
    let lengths : length next ≡ length bytes + count = ap length is ∙ length-append bytes (take count buffer) ∙ ap (λ n. length bytes + n) (length-take-le count buffer within) in
    omega (arith, lengths, enough, some)
