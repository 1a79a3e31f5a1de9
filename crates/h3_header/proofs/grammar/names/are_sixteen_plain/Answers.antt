use Rattle.std.proofs.Common.{ℕ, leb, cond, bit_and, refl, arith}
use Rattle.std.proofs.lemmas.Simd.{zip2_splat, length-chunk}
use lib.Lanes.{chunk}
use Rattle.http_header.specs.Token.{is_token_byte}
use Rattle.httparse.proofs.LaneLemmas.{joined, splat_is}
use Rattle.h3_header.specs.HeadTests.{is_name_byte}
use Rattle.h3_header.proofs.LaneLaws.{none_marked}
use Rattle.h3_header.proofs.grammar.names.are_sixteen_plain.Goals as goal

pub returns : goal.returns
unfolding is_token_byte
returns c none =
    let v = chunk c.args.at 16 c.args.text.now in
    let long = length-chunk c.args.at 16 c.args.text.now c.requires in
    let no_letter = joined (λ a b. cond (leb a b) 255 0) _ _ v (splat_is v 16 26 long) (zip2_splat {Y = ℕ} _ v 16 97 long) in
    none_marked is_name_byte c.args.text.now c.args.at 16 _ c.requires (omega arith) c.type_inv.text _
    (joined bit_and _ _ v no_letter (zip2_splat {Y = ℕ} _ v 16 45 long)) refl none
