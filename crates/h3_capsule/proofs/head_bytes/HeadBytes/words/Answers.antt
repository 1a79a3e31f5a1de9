use Rattle.std.proofs.Common.{rules, ◌≡◌, ◌++◌, length, take, subst}
use Rattle.std.specs.Int.{w64, to_le_bytes}
use Rattle.h3_capsule.proofs.Words.{are_kept}
use Rattle.h3_capsule.proofs.head_bytes.HeadBytes.words.Goals as goal

pub returns : goal.returns
returns c =
    let kept = are_kept c.self.inside.bytes (to_le_bytes w64 c.word.result) (to_le_bytes w64 c.word-2.result) c.self.inside.len (search rules) c.self.invariant (search rules) c.word-2.ensures in
    subst (λ x. take (length x) (to_le_bytes w64 c.word.result ++ to_le_bytes w64 c.word-2.result) ≡ x) c.self.view_is kept
