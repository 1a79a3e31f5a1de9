use Rattle.std.proofs.Common.{◌≡◌, ◌-◌, ◌<◌, ◌≤◌, length, drop, arith, refl, ap, sym, ◌∙◌}
use Rattle.std.specs.Prelude.{slice_set}
use Rattle.std.specs.List.{concat}
use Rattle.std.proofs.lemmas.List.Elements.{All-same}
use Rattle.h3_frames.specs.Elements.{all_cuts, all_of}
use Rattle.h3_frames.specs.Pieces.{Listed, first_size, joined, without}
use Rattle.h3_frames.specs.PieceLaws.{concat-without, without-none}
use Rattle.h3_frames.proofs.ElementLemmas.{filled_behind, first_filled, first_size-all, pass_all, pass_within, rest_bytes, rest_set, split_size}
use Rattle.h3_frames.proofs.buf.queue.Queue.advance_first.Goals as goal

pub returns-then-cnt-there-clause-rest : goal.returns-then-cnt-there-clause-rest
returns-then-cnt-there-clause-rest g c =
    let items = c.self.inside.bufs.items in
    let some : 0 < length items = omega (arith, c.in-Some.ensures.variant.0 refl) in
    let less : c.args.cnt < length (all_of g.T.Buf.unread c.in-Some.first.now) = omega (arith, c.if-cnt-there.true, c.remaining-there.ensures) in
    ap concat (pass_within g.T.Buf.unread c.args.cnt items c.in-Some.first.now c.pass.new.self some c.in-Some.ensures.value less (c.pass.ensures.pieces less))
    ∙ concat-without c.args.cnt (all_cuts g.T.Buf.unread items) ∙ ap (λ (l : Listed). drop c.args.cnt (concat l.pieces)) c.self.view_is

pub returns-then-cnt-there-clause-pieces : goal.returns-then-cnt-there-clause-pieces
returns-then-cnt-there-clause-pieces g c =
    let items = c.self.inside.bufs.items in
    let some : 0 < length items = omega (arith, c.in-Some.ensures.variant.0 refl) in
    let less : c.args.cnt < length (all_of g.T.Buf.unread c.in-Some.first.now) = omega (arith, c.if-cnt-there.true, c.remaining-there.ensures) in
    let none : c.args.cnt - c.args.cnt ≡ 0 = omega arith in
    let new = all_cuts g.T.Buf.unread (slice_set items 0 c.pass.new.self) in
    ap (λ n. without n new) none ∙ without-none new
    ∙ pass_within g.T.Buf.unread c.args.cnt items c.in-Some.first.now c.pass.new.self some c.in-Some.ensures.value less (c.pass.ensures.pieces less)
    ∙ ap (λ (l : Listed). without c.args.cnt l.pieces) c.self.view_is

pub invariant_of-self-2 : goal.invariant_of-self-2
invariant_of-self-2 g c =
    let items = c.self.inside.bufs.items in
    let first = c.in-Some.first.now in
    let some : 0 < length items = omega (arith, c.in-Some.ensures.variant.0 refl) in
    let behind : c.pop_front.new.self.items ≡ drop 1 items = c.pop_front.ensures.rest ∙ rest_set items _ in
    let size = split_size g.T.Buf.unread items first some c.in-Some.ensures.value in
    let left = ap (λ l. length (joined (all_of g.T.Buf.unread) l)) behind in
    (omega (arith, size, left, c.self.invariant.0, c.remaining-there.ensures), All-same (λ e. 0 < length (all_of g.T.Buf.unread e)) _ _ behind (filled_behind g.T.Buf.unread items first some c.in-Some.ensures.value c.self.invariant.1))

pub returns-clause-all : goal.returns-clause-all
returns-clause-all g c few =
    let items = c.self.inside.bufs.items in
    let first = c.in-Some.first.now in
    let some : 0 < length items = omega (arith, c.in-Some.ensures.variant.0 refl) in
    let size = first_size-all g.T.Buf.unread items first some c.in-Some.ensures.value (first_filled g.T.Buf.unread items first some c.in-Some.ensures.value c.self.invariant.1) in
    let shown = ap (λ (l : Listed). first_size l.pieces) c.self.view_is in
    omega (arith, few, size, shown, c.if-cnt-there.false, c.remaining-there.ensures)

pub returns-clause-rest : goal.returns-clause-rest
returns-clause-rest g c =
    let items = c.self.inside.bufs.items in
    let first = c.in-Some.first.now in
    let some : 0 < length items = omega (arith, c.in-Some.ensures.variant.0 refl) in
    let behind : c.pop_front.new.self.items ≡ drop 1 items = c.pop_front.ensures.rest ∙ rest_set items _ in
    ap concat c.let_go.ensures ∙ ap (λ l. concat (all_cuts g.T.Buf.unread l)) behind ∙ sym (rest_bytes g.T.Buf.unread items first some c.in-Some.ensures.value)
    ∙ ap (λ n. drop n (concat (all_cuts g.T.Buf.unread items))) (sym c.remaining-there.ensures) ∙ ap (λ (l : Listed). drop c.remaining-there.result (concat l.pieces)) c.self.view_is

pub returns-clause-pieces : goal.returns-clause-pieces
returns-clause-pieces g c =
    let items = c.self.inside.bufs.items in
    let first = c.in-Some.first.now in
    let some : 0 < length items = omega (arith, c.in-Some.ensures.variant.0 refl) in
    let behind : c.pop_front.new.self.items ≡ drop 1 items = c.pop_front.ensures.rest ∙ rest_set items _ in
    let filled = first_filled g.T.Buf.unread items first some c.in-Some.ensures.value c.self.invariant.1 in
    let most : length (all_of g.T.Buf.unread first) ≤ c.args.cnt = omega (arith, c.if-cnt-there.false, c.remaining-there.ensures) in
    ap (without (c.args.cnt - c.remaining-there.result)) (c.let_go.ensures ∙ ap (all_cuts g.T.Buf.unread) behind)
    ∙ ap (λ n. without (c.args.cnt - n) (all_cuts g.T.Buf.unread (drop 1 items))) c.remaining-there.ensures
    ∙ sym (pass_all g.T.Buf.unread c.args.cnt items first some c.in-Some.ensures.value filled most) ∙ ap (λ (l : Listed). without c.args.cnt l.pieces) c.self.view_is
