-- The stream is lent by the row, or else by the map.
use Rattle.std.proofs.Common.{Some, None, is_some, refl, sym, ◌∙◌, ap}
use Rattle.h3_requests.specs.Listed.{streams_of}
use Rattle.h3_requests.specs.Row.{held_at}
use Rattle.h3_requests.specs.RowLending.{with_stream}
use Rattle.h3_requests.proofs.Beside.{behind, beside, has_none, in_row, writes_behind, writes_first, writes_none}
use Rattle.h3_requests.proofs.Places.{written}
use Rattle.h3_requests.proofs.under_way.StreamsUnderWay.get_mut.Goals as goal

pub returns-then-has : goal.returns-then-has
returns-then-has c =
    let some = sym c.has.ensures ∙ c.if-has.true in (
      (
        refl,
        λ w.
            let wrote = written c.self.inside.row.places.items c.args.id w (record { id = c.args.id; stream = Some w }) refl refl some in
            writes_first (held_at c.self.inside.row) c.self.inside.others.streams.entries c.args.self.now c.self.view_is c.args.id c.ranges.id.fits (held_at (with_stream c.self.inside.row c.args.id w)) w some wrote.0 wrote.1,
        refl,
      ),
      record {
        writes_back = tt;
        value = sym (in_row (held_at c.self.inside.row) c.self.inside.others.streams.entries c.args.self.now c.self.view_is c.args.id c.ranges.id.fits (Some c.get_mut.result.now) (sym c.get_mut.ensures.value) refl);
      },
    )

pub returns-in-Some : goal.returns-in-Some
returns-in-Some c =
    let none = has_none (held_at c.self.inside.row c.args.id) (sym c.has.ensures ∙ c.if-has.false) in (
      (
        refl,
        λ w.
            let wrote = c.get_mut-2.follows.holds w (sym (ap is_some c.in-Some.ensures.value)) in
            writes_behind (held_at c.self.inside.row) c.self.inside.others.streams.entries c.args.self.now c.self.view_is c.args.id c.ranges.id.fits (c.get_mut-2.follows.lender w).streams.entries w none wrote.0 wrote.1 wrote.2,
        refl,
      ),
      record {
        writes_back = tt;
        value = sym (behind (held_at c.self.inside.row) c.self.inside.others.streams.entries c.args.self.now c.self.view_is c.args.id c.ranges.id.fits (Some c.in-Some.stream.now) none c.in-Some.ensures.value);
      },
    )

pub returns-in-None : goal.returns-in-None
returns-in-None c =
    let none = behind (held_at c.self.inside.row) c.self.inside.others.streams.entries c.args.self.now c.self.view_is c.args.id c.ranges.id.fits None (has_none (held_at c.self.inside.row c.args.id) (sym c.has.ensures ∙ c.if-has.false)) c.in-None.ensures.value in (
      (
        refl,
        λ w. writes_none (held_at c.self.inside.row) c.self.inside.others.streams.entries c.args.self.now c.self.view_is c.args.id c.ranges.id.fits _ w none,
        ap (λ m. streams_of (beside (held_at c.self.inside.row) m.streams.entries)) c.get_mut-2.follows.holds-at-none ∙ c.self.view_is,
      ),
      record { writes_back = tt; value = sym none },
    )
