-- What holds of what the bytes of a one-way stream begin with.
use Rattle.std.proofs.Common.{◌≡◌, ℕ, ◌≤◌, Bool, true, false, List, ◌++◌, length, arith, sym, ap, if◌then◌else◌, Option, Some, None, IsSome}
use Rattle.h3_coding.specs.Varint.{varint_at}
use Rattle.h3_coding.specs.VarintLaws.{reads_more, shorter}
use Rattle.h3_wire.specs.Accepting.{Typed, has_id, with_id, with_type, start_from, resolved}
use Rattle.h3_frames.specs.Numbers.{TakesNumber}

-- a number that is taken makes the bytes fewer
pub takes_fewer : (o : Option ℕ) (old new : List ℕ) → TakesNumber o old new → length new ≤ length old
takes_fewer (Some v) old new h = omega (arith, shorter v old new h)
takes_fewer None old new h = omega (arith, ap length h.1)

apart : {A : Type 0} → true ≡ false → A
apart e = absurd (cc)

id_behind : (b : Bool) (kind v : ℕ) (new : List ℕ) (bytes : List ℕ) → (if b then false else true) ≡ false → varint_at bytes ≡ Some (v, new)
    → Typed kind (Some v) new ≡ (if b then with_id kind (varint_at bytes) else Typed kind None bytes)
id_behind true kind v new bytes h e = sym (ap (with_id kind) e)
id_behind false kind v new bytes h e = apart h

-- the id is read alike, whatever follows it
pub start_after_id : (kind id : Option ℕ) (v : ℕ) (old new more : List ℕ) → IsSome kind → resolved kind id ≡ false → varint_at old ≡ Some (v, new)
    → start_from kind (Some v) (new ++ more) ≡ start_from kind id (old ++ more)
start_after_id None id v old new more some h e = apart (sym some)
start_after_id (Some kind) None v old new more some h e = id_behind (has_id kind) kind v (new ++ more) (old ++ more) h (reads_more v old new more e)
start_after_id (Some kind) (Some i) v old new more some h e = apart h

-- and so is the type
pub start_after_type : (kind : ℕ) (old new more : List ℕ) → varint_at old ≡ Some (kind, new) → start_from (Some kind) None (new ++ more) ≡ start_from None None (old ++ more)
start_after_type kind old new more e = sym (ap with_type (reads_more kind old new more e))
