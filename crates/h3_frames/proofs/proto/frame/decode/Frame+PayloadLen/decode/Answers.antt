use Rattle.std.proofs.Common.{◌≡◌, ◌==◌, true, false, refl, ◌+◌, ◌<◌, ◌≤◌, ◌∙◌, ap, sym, subst}
use Rattle.std.proofs.lemmas.Bool.{lt-ltb, le-ltb}
use Rattle.h3_frames.proofs.Fronts.{front_takes, front_then, front_unfinished, on_front}
use Rattle.h3_frames.specs.FrameLaws.{at_no_kind, at_no_number, at_head}
use Rattle.h3_frames.specs.Frames.{Unfinished, Decodes, Front, plain_frames}
use Rattle.h3_frames.proofs.proto.frame.decode.Frame+PayloadLen.decode.Goals as goal

pub returns-in_default-clause-decodes : goal.returns-in_default-clause-decodes
returns-in_default-clause-decodes g c = at_no_kind plain_frames _ c.in_default.ensures.reads ∙ ap (λ n. Unfinished (n + 1)) (sym c.remaining-remaining.ensures)

pub returns-in_default-get_var-clause-decodes : goal.returns-in_default-get_var-clause-decodes
returns-in_default-get_var-clause-decodes g c =
    at_no_number plain_frames c.in-Ok.kind _ _ c.in-Ok.ensures.reads c.in_default-get_var.ensures.reads ∙ ap (λ n. Unfinished (n + 1)) (sym c.remaining-remaining.ensures)

pub returns-then-eq-clause-decodes : goal.returns-then-eq-clause-decodes
returns-then-eq-clause-decodes g c =
    let session : (c.in-Ok.kind == 65) ≡ true = sym c.eq.ensures ∙ c.if-eq.true in
    at_head plain_frames c.in-Ok.kind c.in-Ok-get_var.number _ _ _ c.in-Ok.ensures.reads c.in-Ok-get_var.ensures.reads
    ∙ rw (session, c.from_varint.ensures, c.from_u64_unchecked.ensures) refl

pub returns-then-eq-2-clause-decodes : goal.returns-then-eq-2-clause-decodes
returns-then-eq-2-clause-decodes g c =
    let session : (c.in-Ok.kind == 65) ≡ false = sym c.eq.ensures ∙ c.if-eq.false in
    let plain : (c.in-Ok.kind == 0) ≡ true = sym c.eq-2.ensures ∙ c.if-eq-2.true in
    at_head plain_frames c.in-Ok.kind c.in-Ok-get_var.number _ _ _ c.in-Ok.ensures.reads c.in-Ok-get_var.ensures.reads
    ∙ rw (session, plain) refl

pub returns-then-behind-len-clause-decodes : goal.returns-then-behind-len-clause-decodes
returns-then-behind-len-clause-decodes g c =
    let session : (c.in-Ok.kind == 65) ≡ false = sym c.eq.ensures ∙ c.if-eq.false in
    let plain : (c.in-Ok.kind == 0) ≡ false = sym c.eq-2.ensures ∙ c.if-eq-2.false in
    let short = subst (λ n. n < c.in-Ok-get_var.number) c.remaining-behind.ensures c.if-behind-len.true in
    at_head plain_frames c.in-Ok.kind c.in-Ok-get_var.number _ _ _ c.in-Ok.ensures.reads c.in-Ok-get_var.ensures.reads
    ∙ rw (session, plain, lt-ltb _ c.in-Ok-get_var.number short, c.remaining-remaining.ensures, c.remaining-behind.ensures) refl

pub returns-clause-decodes : goal.returns-clause-decodes
returns-clause-decodes g c =
    let number = c.in-Ok-get_var.number in
    let session : (c.in-Ok.kind == 65) ≡ false = sym c.eq.ensures ∙ c.if-eq.false in
    let plain : (c.in-Ok.kind == 0) ≡ false = sym c.eq-2.ensures ∙ c.if-eq-2.false in
    let whole = subst (λ n. number ≤ n) c.remaining-behind.ensures c.if-behind-len.false in
    let here = at_head plain_frames c.in-Ok.kind number _ _ _ c.in-Ok.ensures.reads c.in-Ok-get_var.ensures.reads ∙ rw (session, plain, le-ltb _ number whole) refl in
    subst (λ (x : Front). Decodes c.read_payload.result x (g.B.Buf.unread c.read_payload.new.buf)) (sym here) c.read_payload.ensures.decodes

pub returns-in_default-clause-front : goal.returns-in_default-clause-front
returns-in_default-clause-front g c = front_unfinished _ _ _ c.in_default.ensures.err

pub returns-in_default-get_var-clause-front : goal.returns-in_default-get_var-clause-front
returns-in_default-get_var-clause-front g c = front_then _ _ _ (front_takes _ _ _ c.in-Ok.ensures.ok) (front_unfinished _ _ _ c.in_default-get_var.ensures.err)

pub returns-then-behind-len-clause-front : goal.returns-then-behind-len-clause-front
returns-then-behind-len-clause-front g c = front_then _ _ _ (front_takes _ _ _ c.in-Ok.ensures.ok) (front_takes _ _ _ c.in-Ok-get_var.ensures.ok)

pub returns-clause-front : goal.returns-clause-front
returns-clause-front g c = on_front _ _ _ _ (front_then _ _ _ (front_takes _ _ _ c.in-Ok.ensures.ok) (front_takes _ _ _ c.in-Ok-get_var.ensures.ok)) c.read_payload.ensures.front
