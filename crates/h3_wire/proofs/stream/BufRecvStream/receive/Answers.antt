use Rattle.std.proofs.Common.{refl, sym, ap, subst, ◌∙◌, inl, Some, Err, Ok}
use Rattle.h3_wire.specs.Asking.{Asks, at_end}
use Rattle.h3_wire.specs.Source.{done}
use Rattle.h3_wire.specs.Streams.{Buffered, stream_error}
use Rattle.h3_wire.specs.declared.quic.Poll.TheVariants.{Ready, Pending}
use Rattle.h3_wire.proofs.Reading.{reading, adds_pieces, adds_none, error_keeps, error_adds, asks_first, asks_of, told_of, tells_error, read_error}
use Rattle.h3_wire.proofs.ReadAlike.{apart}
use Rattle.h3_wire.proofs.stream.BufRecvStream.receive.Goals as goal

pub returns-then-self-clause-asked : goal.returns-then-self-clause-asked
returns-then-self-clause-asked g c = done _ _ refl

pub returns-then-self-clause-first : goal.returns-then-self-clause-first
returns-then-self-clause-first g c = λ e. let k = ap (λ (b : Buffered g.row.S.Denot). b.is_eos) c.self.view_is in absurd (apart (sym c.if-self.true ∙ k ∙ e))

pub returns-in-Ready-Ok-true-clause-asked : goal.returns-in-Ready-Ok-true-clause-asked
returns-in-Ready-Ok-true-clause-asked g c =
    let open_here = sym (ap (λ (b : Buffered g.row.S.Denot). b.is_eos) c.self.view_is) ∙ c.if-self.false in
    (reading g.S.RecvStream.rest g.S.RecvStream.answers g.met.S.RecvStream.polls c.poll_read.result _ _ open_here c.poll_read.ensures).asked

pub returns-in-Ready-Ok-true-clause-first : goal.returns-in-Ready-Ok-true-clause-first
returns-in-Ready-Ok-true-clause-first g c = λ _. asks_first g.S.RecvStream.answers c.poll_read.result c.args.self.now c.poll_read.new.self _ c.poll_read.ensures (λ e q. absurd (cc))

pub returns-in-Ready-Ok-false-clause-asked : goal.returns-in-Ready-Ok-false-clause-asked
returns-in-Ready-Ok-false-clause-asked g c =
    let open_here = sym (ap (λ (b : Buffered g.row.S.Denot). b.is_eos) c.self.view_is) ∙ c.if-self.false in
    (reading g.S.RecvStream.rest g.S.RecvStream.answers g.met.S.RecvStream.polls c.poll_read.result _ _ open_here c.poll_read.ensures).asked

pub returns-in-Ready-Ok-false-clause-all : goal.returns-in-Ready-Ok-false-clause-all
returns-in-Ready-Ok-false-clause-all g c =
    let open_here = sym (ap (λ (b : Buffered g.row.S.Denot). b.is_eos) c.self.view_is) ∙ c.if-self.false in
    (reading g.S.RecvStream.rest g.S.RecvStream.answers g.met.S.RecvStream.polls c.poll_read.result _ _ open_here c.poll_read.ensures).all

pub returns-in-Ready-Ok-false-clause-grows : goal.returns-in-Ready-Ok-false-clause-grows
returns-in-Ready-Ok-false-clause-grows g c =
    let open_here = sym (ap (λ (b : Buffered g.row.S.Denot). b.is_eos) c.self.view_is) ∙ c.if-self.false in
    (reading g.S.RecvStream.rest g.S.RecvStream.answers g.met.S.RecvStream.polls c.poll_read.result _ _ open_here c.poll_read.ensures).grows

pub returns-in-Ready-Ok-false-clause-first : goal.returns-in-Ready-Ok-false-clause-first
returns-in-Ready-Ok-false-clause-first g c = λ _. asks_first g.S.RecvStream.answers c.poll_read.result c.args.self.now c.poll_read.new.self _ c.poll_read.ensures (λ e q. absurd (cc))

pub returns-in-Pending-clause-asked : goal.returns-in-Pending-clause-asked
returns-in-Pending-clause-asked g c =
    let open_here = sym (ap (λ (b : Buffered g.row.S.Denot). b.is_eos) c.self.view_is) ∙ c.if-self.false in
    (reading g.S.RecvStream.rest g.S.RecvStream.answers g.met.S.RecvStream.polls c.poll_read.result _ _ open_here c.poll_read.ensures).asked

pub returns-in-Pending-clause-first : goal.returns-in-Pending-clause-first
returns-in-Pending-clause-first g c = λ _. asks_first g.S.RecvStream.answers c.poll_read.result c.args.self.now c.poll_read.new.self _ c.poll_read.ensures (λ e q. absurd (cc))

pub returns-then-self-clause-pieces : goal.returns-then-self-clause-pieces
returns-then-self-clause-pieces g c = adds_none g.S.RecvStream.answers _ _ _ _ refl refl

pub returns-in-Ready-Ok-true-clause-pieces : goal.returns-in-Ready-Ok-true-clause-pieces
returns-in-Ready-Ok-true-clause-pieces g c = adds_pieces g.S.RecvStream.rest g.S.RecvStream.answers g.met.S.RecvStream.polls c.poll_read.result _ _ c.poll_read.ensures

pub returns-in-Ready-Ok-false-clause-pieces : goal.returns-in-Ready-Ok-false-clause-pieces
returns-in-Ready-Ok-false-clause-pieces g c = adds_pieces g.S.RecvStream.rest g.S.RecvStream.answers g.met.S.RecvStream.polls c.poll_read.result _ _ c.poll_read.ensures

pub returns-in-Pending-clause-pieces : goal.returns-in-Pending-clause-pieces
returns-in-Pending-clause-pieces g c = adds_pieces g.S.RecvStream.rest g.S.RecvStream.answers g.met.S.RecvStream.polls c.poll_read.result _ _ c.poll_read.ensures

pub returns-in-Ready-Err : goal.returns-in-Ready-Err
returns-in-Ready-Err g c =
    let open_here = sym (ap (λ (b : Buffered g.row.S.Denot). b.is_eos) c.self.view_is) ∙ c.if-self.false in
    let r = reading g.S.RecvStream.rest g.S.RecvStream.answers g.met.S.RecvStream.polls c.poll_read.result _ _ open_here c.poll_read.ensures in
    let here = rw c.in-Ready-Err.field-0-is at c.in-Ready-Err.ensures in
    record {
      all = r.all;
      grows = r.grows;
      adds = error_adds g.S.RecvStream.answers c.in-Ready-Err.e c.args.self.now c.poll_read.new.self here;
      tells = rw c.as_stream_error.ensures (tells_error g.S.RecvStream.rest g.S.RecvStream.answers c.in-Ready-Err.e c.args.self.now c.poll_read.new.self here);
      asked = r.asked;
      ended = inl (error_keeps g.S.RecvStream.answers c.in-Ready-Err.e c.args.self.now c.poll_read.new.self here);
      first = λ _. asks_first g.S.RecvStream.answers c.poll_read.result c.args.self.now c.poll_read.new.self _ c.poll_read.ensures (λ e q. ap (λ x. Some x) c.as_stream_error.ensures ∙ ap (λ x. Some (stream_error x)) (read_error c.poll_read.result c.in-Ready-Err.e e (c.in-Ready-Err.is ∙ ap (λ x. Ready x) c.in-Ready-Err.field-0-is) q));
      pieces = adds_pieces g.S.RecvStream.rest g.S.RecvStream.answers g.met.S.RecvStream.polls c.poll_read.result _ _ c.poll_read.ensures;
      end = tt;
      asks = subst (λ r. Asks g.S.RecvStream.answers c.args.self.now (Err r) c.poll_read.new.self) (sym c.as_stream_error.ensures) (asks_of g.S.RecvStream.rest g.S.RecvStream.answers g.met.S.RecvStream.polls (Ready (Err c.in-Ready-Err.e)) c.args.self.now c.poll_read.new.self open_here here);
    }

pub returns-then-self-clause-asks : goal.returns-then-self-clause-asks
returns-then-self-clause-asks g c = at_end (sym (ap (λ (b : Buffered g.row.S.Denot). b.is_eos) c.self.view_is) ∙ c.if-self.true) refl refl

pub returns-in-Ready-Ok-true-clause-asks : goal.returns-in-Ready-Ok-true-clause-asks
returns-in-Ready-Ok-true-clause-asks g c =
    let open_here = sym (ap (λ (b : Buffered g.row.S.Denot). b.is_eos) c.self.view_is) ∙ c.if-self.false in
    let h = c.in-Ready-Ok-true in
    subst (λ r. Asks g.S.RecvStream.answers c.args.self.now r c.poll_read.new.self) (ap told_of (h.is ∙ ap (λ x. Ready x) (h.field-0-is ∙ ap (λ x. Ok x) h.field-0-0-test)))
    (asks_of g.S.RecvStream.rest g.S.RecvStream.answers g.met.S.RecvStream.polls c.poll_read.result c.args.self.now c.poll_read.new.self open_here c.poll_read.ensures)

pub returns-in-Ready-Ok-false-clause-asks : goal.returns-in-Ready-Ok-false-clause-asks
returns-in-Ready-Ok-false-clause-asks g c =
    let open_here = sym (ap (λ (b : Buffered g.row.S.Denot). b.is_eos) c.self.view_is) ∙ c.if-self.false in
    let h = c.in-Ready-Ok-false in
    subst (λ r. Asks g.S.RecvStream.answers c.args.self.now r c.poll_read.new.self) (ap told_of (h.is ∙ ap (λ x. Ready x) (h.field-0-is ∙ ap (λ x. Ok x) h.field-0-0-test)))
    (asks_of g.S.RecvStream.rest g.S.RecvStream.answers g.met.S.RecvStream.polls c.poll_read.result c.args.self.now c.poll_read.new.self open_here c.poll_read.ensures)

pub returns-in-Pending-clause-asks : goal.returns-in-Pending-clause-asks
returns-in-Pending-clause-asks g c =
    let open_here = sym (ap (λ (b : Buffered g.row.S.Denot). b.is_eos) c.self.view_is) ∙ c.if-self.false in
    asks_of g.S.RecvStream.rest g.S.RecvStream.answers g.met.S.RecvStream.polls Pending c.args.self.now c.poll_read.new.self open_here c.in-Pending.ensures
