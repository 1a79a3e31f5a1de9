use Rattle.std.proofs.Common.{rules, ◌∙◌, ◌++◌, [], ap, sym, subst, drop}
use Rattle.h3_connection.specs.WaitingPieces.{bytes_of}
use Rattle.h3_outgoing.specs.Copied.{Filled}
use Rattle.h3_outgoing.specs.Held.{AreApart, front_of, past_of}
use Rattle.h3_outgoing.specs.Queue.{at_most_one, frames_in}
use Rattle.h3_outgoing.proofs.HeldFronts.{done_none, done_more, last_copied, last_past, apart_behind, apart_later, of_first, of_places, rest_copied, rest_past, places_copied, places_past}
use Rattle.h3_outgoing.proofs.frames.WaitingFrames.copy_to.Goals.{then-is_last-2-via-then-is_last-2, then-is_last-2-via-else-is_last-2+then-is_empty}
use Rattle.h3_outgoing.proofs.frames.WaitingFrames.copy_to.Goals as goal

pub returns-then-is_last-clause-copied : goal.returns-then-is_last-clause-copied
returns-then-is_last-clause-copied c =
    let s = c.self.inside in
    let one = bytes_of (at_most_one s.first) in
    let out = c.put_one-first.new.out in
    let next = c.put_one-first.result.0 in
    subst (λ w. Filled (front_of (bytes_of w.frames)) c.args.out.now out next) c.self.view_is
    (subst (λ w. Filled (front_of w) c.args.out.now out next) (of_first s.first s.second s.later.items)
    (last_copied [] one (bytes_of (at_most_one s.second ++ s.later.items)) c.args.out.now c.args.out.now out 0 next c.put_one-first.result.1 c.put_one-first.result.2 (done_none c.args.out.now) c.put_one-first.ensures.copied c.if-is_last.true))

pub returns-then-is_last-clause-past : goal.returns-then-is_last-clause-past
returns-then-is_last-clause-past c apart =
    let s = c.self.inside in
    let one = bytes_of (at_most_one s.first) in
    let out = c.put_one-first.new.out in
    let next = c.put_one-first.result.0 in
    let here : AreApart (frames_in s.first s.second s.later.items) = subst (λ w. AreApart w.frames) (sym c.self.view_is) apart in
    last_past [] one (bytes_of (at_most_one s.second ++ s.later.items)) c.args.out.now c.args.out.now out 0 next c.put_one-first.result.1 c.put_one-first.result.2 (done_none c.args.out.now) c.put_one-first.ensures.copied c.if-is_last.true
    (apart_behind (at_most_one s.first) (at_most_one s.second ++ s.later.items) (c.put_one-first.ensures.some c.if-is_last.true) here)
    ∙ ap (λ w. past_of (drop next w)) (of_first s.first s.second s.later.items)
    ∙ ap (λ w. past_of (drop next (bytes_of w.frames))) c.self.view_is

pub returns-then-is_last-2-clause-copied : goal.returns-then-is_last-2-clause-copied
returns-then-is_last-2-clause-copied c =
    let s = c.self.inside in
    let out = c.put_one-second.new.out in
    let next = c.put_one-second.result.0 in
    let done = done_more [] (bytes_of (at_most_one s.first)) c.args.out.now c.args.out.now c.put_one-first.new.out 0 c.put_one-first.result.0 c.put_one-first.result.1 c.put_one-first.result.2 (done_none c.args.out.now) c.put_one-first.ensures.copied c.if-is_last.false in
    subst (λ w. Filled (front_of (bytes_of w.frames)) c.args.out.now out next) c.self.view_is (elim c.then-is_last-2.branch [
      | then-is_last-2-via-then-is_last-2 w ↦
          subst (λ l. Filled (front_of l) c.args.out.now out next) (of_places s.first s.second s.later.items)
          (last_copied (bytes_of (at_most_one s.first)) (bytes_of (at_most_one s.second)) (bytes_of s.later.items) c.args.out.now c.put_one-first.new.out out c.put_one-first.result.0 next c.put_one-second.result.1 c.put_one-second.result.2 done c.put_one-second.ensures.copied w.if-is_last-2.true)
      | then-is_last-2-via-else-is_last-2+then-is_empty w ↦
          places_copied s.first s.second s.later.items c.args.out.now c.put_one-first.new.out out c.put_one-first.result.0 next c.put_one-second.result.1 c.put_one-second.result.2 done c.put_one-second.ensures.copied (search rules)
    ])

pub returns-then-is_last-2-clause-past : goal.returns-then-is_last-2-clause-past
returns-then-is_last-2-clause-past c apart =
    let s = c.self.inside in
    let out = c.put_one-second.new.out in
    let next = c.put_one-second.result.0 in
    let here : AreApart (frames_in s.first s.second s.later.items) = subst (λ w. AreApart w.frames) (sym c.self.view_is) apart in
    let done = done_more [] (bytes_of (at_most_one s.first)) c.args.out.now c.args.out.now c.put_one-first.new.out 0 c.put_one-first.result.0 c.put_one-first.result.1 c.put_one-first.result.2 (done_none c.args.out.now) c.put_one-first.ensures.copied c.if-is_last.false in
    elim c.then-is_last-2.branch [
      | then-is_last-2-via-then-is_last-2 w ↦
          last_past (bytes_of (at_most_one s.first)) (bytes_of (at_most_one s.second)) (bytes_of s.later.items) c.args.out.now c.put_one-first.new.out out c.put_one-first.result.0 next c.put_one-second.result.1 c.put_one-second.result.2 done c.put_one-second.ensures.copied w.if-is_last-2.true
          (apart_behind (at_most_one s.second) s.later.items (c.put_one-second.ensures.some w.if-is_last-2.true) (apart_later (at_most_one s.first) (at_most_one s.second ++ s.later.items) here))
          ∙ ap (λ l. past_of (drop next l)) (of_places s.first s.second s.later.items)
          ∙ ap (λ w. past_of (drop next (bytes_of w.frames))) c.self.view_is
      | then-is_last-2-via-else-is_last-2+then-is_empty w ↦
          places_past s.first s.second s.later.items c.args.out.now c.put_one-first.new.out out c.put_one-first.result.0 next c.put_one-second.result.1 c.put_one-second.result.2 done c.put_one-second.ensures.copied (search rules)
          ∙ ap (λ w. past_of (drop next (bytes_of w.frames))) c.self.view_is
    ]

pub returns-clause-copied : goal.returns-clause-copied
returns-clause-copied c =
    let s = c.self.inside in
    let out = c.put_later.new.out in
    let next = c.put_later.result.0 in
    let one = bytes_of (at_most_one s.first) in
    let two = bytes_of (at_most_one s.second) in
    let done = done_more [] one c.args.out.now c.args.out.now c.put_one-first.new.out 0 c.put_one-first.result.0 c.put_one-first.result.1 c.put_one-first.result.2 (done_none c.args.out.now) c.put_one-first.ensures.copied c.if-is_last.false in
    let both = done_more one two c.args.out.now c.put_one-first.new.out c.put_one-second.new.out c.put_one-first.result.0 c.put_one-second.result.0 c.put_one-second.result.1 c.put_one-second.result.2 done c.put_one-second.ensures.copied c.if-is_last-2.false in
    subst (λ w. Filled (front_of (bytes_of w.frames)) c.args.out.now out next) c.self.view_is
    (subst (λ l. Filled (front_of l) c.args.out.now out next) (of_places s.first s.second s.later.items)
    (rest_copied (one ++ two) (bytes_of s.later.items) c.args.out.now c.put_one-second.new.out out c.put_one-second.result.0 next both c.put_later.ensures.copied))

pub returns-clause-past : goal.returns-clause-past
returns-clause-past c apart =
    let s = c.self.inside in
    let out = c.put_later.new.out in
    let next = c.put_later.result.0 in
    let one = bytes_of (at_most_one s.first) in
    let two = bytes_of (at_most_one s.second) in
    let here : AreApart (frames_in s.first s.second s.later.items) = subst (λ w. AreApart w.frames) (sym c.self.view_is) apart in
    let done = done_more [] one c.args.out.now c.args.out.now c.put_one-first.new.out 0 c.put_one-first.result.0 c.put_one-first.result.1 c.put_one-first.result.2 (done_none c.args.out.now) c.put_one-first.ensures.copied c.if-is_last.false in
    let both = done_more one two c.args.out.now c.put_one-first.new.out c.put_one-second.new.out c.put_one-first.result.0 c.put_one-second.result.0 c.put_one-second.result.1 c.put_one-second.result.2 done c.put_one-second.ensures.copied c.if-is_last-2.false in
    rest_past (one ++ two) (bytes_of s.later.items) c.args.out.now c.put_one-second.new.out out c.put_one-second.result.0 next c.put_later.result.1 both c.put_later.ensures.copied
    (c.put_later.ensures.past (apart_later (at_most_one s.second) s.later.items (apart_later (at_most_one s.first) (at_most_one s.second ++ s.later.items) here)))
    ∙ ap (λ l. past_of (drop next l)) (of_places s.first s.second s.later.items)
    ∙ ap (λ w. past_of (drop next (bytes_of w.frames))) c.self.view_is
