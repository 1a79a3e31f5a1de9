-- More bytes come behind those that are not read.
use Rattle.std.proofs.Common.{◌≡◌, ℕ, List, ◌++◌, ap, sym, subst}
use Rattle.std.specs.Prelude.{Result, Ok, Err, OnOk, OnErr}
use Rattle.std.specs.List.{concat}
use Rattle.h3_frames.specs.Tries.{Decoding, Expects}
use Rattle.h3_frames.specs.TryLaws.{Awaits-more}
use Rattle.h3_frames.specs.declared.frame.kinds.FrameKinds.{FrameKinds}

-- Where they are kept, and where they are not, a decoder may count on what it did.
pub expects_pushed : (kinds : FrameKinds) {A E : Type 0} (r : Result A E) (d : Decoding) (old new : List (List ℕ)) (bytes : List ℕ) → Expects kinds d (concat old) → OnOk r (concat new ≡ concat old ++ bytes) → OnErr r (new ≡ old)
    → Expects kinds d (concat new)
expects_pushed kinds (Ok value) d old new bytes h more same = subst (λ l. Expects kinds d l) (sym more) (Awaits-more kinds d.expected d.tries (concat old) bytes h)
expects_pushed kinds (Err e) d old new bytes h more same = subst (λ l. Expects kinds d l) (ap concat (sym same)) h
