use Rattle.std.proofs.Common.{◌≡◌, ◌-◌, ◌≤◌, length, drop, arith, ap, sym, subst, ◌∙◌}
use Rattle.std.specs.List.{concat}
use Rattle.h3_frames.specs.declared.proto.frame.Frame.TheVariants as frame
use Rattle.h3_frames.specs.Frames.{Whole, BeginsWithHead}
use Rattle.h3_frames.specs.PieceLaws.{without-none}
use Rattle.h3_frames.specs.Pieces.{first_size, without}
use Rattle.h3_frames.proofs.Chunks.{first_within}
use Rattle.h3_frames.proofs.Heads.{data_at, first_length, head_in_first, headers_in_first}
use Rattle.h3_frames.proofs.Tries.{head_is_whole}
use Rattle.h3_frames.proofs.frame.decoder.take_first.Goals as goal

pub returns-then-head-eq0-clause-some : goal.returns-then-head-eq0-clause-some
returns-then-head-eq0-clause-some c = λ kinds.
    let head = c.in_ok-head.head in
    let bytes = c.first_bytes-bytes.result.now in
    let all = concat c.args.src.now.pieces in
    let read = subst (λ k. BeginsWithHead k head.number bytes (drop head.size bytes)) c.if-head-eq0.true c.in_ok-head.ensures.begins in
    let here = head_in_first 0 head.number head.size c.args.src.now.pieces bytes c.first_bytes-bytes.ensures c.in_ok-head.ensures.inside.1 read in
    let within : head.size ≤ first_size c.args.src.now.pieces = omega (arith, first_length c.args.src.now.pieces, ap length c.first_bytes-bytes.ensures, c.in_ok-head.ensures.inside.1) in
    let passed = c.advance_first.ensures.all within in
    let behind : drop head.size all ≡ concat c.advance_first.new.self.pieces = sym (c.advance_first.ensures.rest ∙ ap (λ n. drop n all) passed) in
    data_at kinds head.number all (drop head.size all) here ∙ ap (λ l. Whole (frame.Data (record { 0 = head.number })) l) behind

pub returns-then-head-eq0-clause-whole : goal.returns-then-head-eq0-clause-whole
returns-then-head-eq0-clause-whole c =
    let head = c.in_ok-head.head in
    let bytes = c.first_bytes-bytes.result.now in
    let here = head_in_first head.kind head.number head.size c.args.src.now.pieces bytes c.first_bytes-bytes.ensures c.in_ok-head.ensures.inside.1 c.in_ok-head.ensures.begins in
    head_is_whole head.kind head.number (concat c.args.src.now.pieces) here.0 (drop head.size (concat c.args.src.now.pieces)) here.1 here.2

pub returns-then-head-eq0-clause-rest : goal.returns-then-head-eq0-clause-rest
returns-then-head-eq0-clause-rest c =
    let head = c.in_ok-head.head in
    let pieces = c.args.src.now.pieces in
    let left = c.advance_first.new.self.pieces in
    let within : head.size ≤ first_size pieces = omega (arith, first_length pieces, ap length c.first_bytes-bytes.ensures, c.in_ok-head.ensures.inside.1) in
    let none : 0 ≡ head.size - c.advance_first.result = omega (arith, c.advance_first.ensures.all within) in
    (head.size, omega (arith, within, first_within pieces), sym (without-none left) ∙ ap (λ n. without n left) none ∙ c.advance_first.ensures.pieces)

pub cut_section-requires-clause-is : goal.cut_section-requires-clause-is
cut_section-requires-clause-is c =
    let head = c.in_ok-head.head in
    let bytes = c.first_bytes-bytes.result.now in
    let read = subst (λ k. BeginsWithHead k head.number bytes (drop head.size bytes)) c.if-head-eq1.true c.in_ok-head.ensures.begins in
    headers_in_first head.number head.size c.args.src.now.pieces bytes c.first_bytes-bytes.ensures c.in_ok-head.ensures.inside.1 (omega arith) read

pub returns-then-len-behind-clause-whole : goal.returns-then-len-behind-clause-whole
returns-then-len-behind-clause-whole c =
    let head = c.in_ok-head.head in
    let bytes = c.first_bytes-bytes.result.now in
    let here = head_in_first head.kind head.number head.size c.args.src.now.pieces bytes c.first_bytes-bytes.ensures c.in_ok-head.ensures.inside.1 c.in_ok-head.ensures.begins in
    head_is_whole head.kind head.number (concat c.args.src.now.pieces) here.0 (drop head.size (concat c.args.src.now.pieces)) here.1 here.2
