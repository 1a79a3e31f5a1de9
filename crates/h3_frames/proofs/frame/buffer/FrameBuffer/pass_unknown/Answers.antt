use Rattle.std.proofs.Common.{◌≡◌, ◌<◌, ◌≤◌, true, length, arith, ap, refl, subst, sym, Some, ◌∙◌}
use Rattle.std.specs.List.{concat}
use Rattle.h3_frames.specs.Tries.{needed}
use Rattle.h3_frames.specs.UnknownSize.{let_go_by, suits, unknown_size}
use Rattle.h3_frames.specs.UnreadFrames.{UnreadFrames, IsStillUnderWay, IsPassed}
use Rattle.h3_frames.proofs.SparedPieces.{still_untried, still_tried, still_expects, is_passed}
use Rattle.h3_frames.proofs.SuitingKinds.{expects_suits, unknown_suits}
use Rattle.h3_frames.proofs.frame.buffer.FrameBuffer.pass_unknown.Goals as goal

pub returns-then-len-needed-clause-waits : goal.returns-then-len-needed-clause-waits
returns-then-len-needed-clause-waits c = λ kinds fits h.
    let i = c.self.inside in
    let old : UnreadFrames = record { pieces = i.unread.pieces; passing = i.unread.passing; known_to = i.unread.known_to; decoder = i.decoder } in
    let passing : 0 < i.unread.passing = omega (arith, ap (λ (u : UnreadFrames). u.passing) c.self.view_is, c.requires.under_way) in
    let few : length (concat i.unread.pieces) < needed i.decoder =
    subst (λ n. n < needed i.decoder) c.len-len.ensures (subst (λ n. c.len-len.result < n) c.needed.ensures c.if-len-needed.true) in
    let suited : suits i.unread.known_to kinds ≡ true = ap (λ (u : UnreadFrames). suits u.known_to kinds) c.self.view_is ∙ fits in
    subst (λ (u : UnreadFrames). IsStillUnderWay kinds u u) c.self.view_is (still_untried kinds old old (expects_suits i.unread.known_to kinds i.decoder (concat i.unread.pieces) suited c.self.invariant) few refl passing refl)

pub invariant_of-self : goal.invariant_of-self
invariant_of-self c =
    let i = c.self.inside in
    let enough : needed i.decoder ≤ length (concat i.unread.pieces) =
    subst (λ n. needed i.decoder ≤ n) c.len-len.ensures (subst (λ n. n ≤ c.len-len.result) c.needed.ensures c.if-len-needed.false) in
    let some : 0 < i.unread.passing = omega (arith, ap (λ (u : UnreadFrames). u.passing) c.self.view_is, c.requires.under_way) in
    let few : length (concat i.unread.pieces) < c.passing-size.result = subst (λ n. n < c.passing-size.result) c.len-len.ensures c.if-len-size.true in
    still_expects (let_go_by i.unread.known_to) i.decoder c.count.new.self c.passing-size.result (concat i.unread.pieces) c.self.invariant enough
    (c.passing-size.ensures.is.unknown some ∙ ap Some (sym c.passing-size.ensures.value)) few c.count.ensures

pub returns-then-len-size-clause-waits : goal.returns-then-len-size-clause-waits
returns-then-len-size-clause-waits c = λ kinds fits h.
    let i = c.self.inside in
    let old : UnreadFrames = record { pieces = i.unread.pieces; passing = i.unread.passing; known_to = i.unread.known_to; decoder = i.decoder } in
    let new : UnreadFrames = record { pieces = i.unread.pieces; passing = i.unread.passing; known_to = i.unread.known_to; decoder = c.count.new.self } in
    let passing : 0 < i.unread.passing = omega (arith, ap (λ (u : UnreadFrames). u.passing) c.self.view_is, c.requires.under_way) in
    let enough : needed i.decoder ≤ length (concat i.unread.pieces) =
    subst (λ n. needed i.decoder ≤ n) c.len-len.ensures (subst (λ n. n ≤ c.len-len.result) c.needed.ensures c.if-len-needed.false) in
    let suited : suits i.unread.known_to kinds ≡ true = ap (λ (u : UnreadFrames). suits u.known_to kinds) c.self.view_is ∙ fits in
    let unknown = unknown_suits i.unread.known_to kinds (concat i.unread.pieces) i.unread.passing suited (c.passing-size.ensures.is.unknown passing) ∙ ap Some (sym c.passing-size.ensures.value) in
    let few : length (concat i.unread.pieces) < c.passing-size.result = subst (λ n. n < c.passing-size.result) c.len-len.ensures c.if-len-size.true in
    subst (λ (u : UnreadFrames). IsStillUnderWay kinds u new) c.self.view_is (still_tried kinds old new c.passing-size.result enough unknown few refl passing c.count.ensures)

pub returns-clause-passed : goal.returns-clause-passed
returns-clause-passed c = λ kinds fits h.
    let i = c.self.inside in
    let old : UnreadFrames = record { pieces = i.unread.pieces; passing = i.unread.passing; known_to = i.unread.known_to; decoder = i.decoder } in
    let new : UnreadFrames = record { pieces = c.pass.new.self.pieces; passing = c.pass.new.self.passing; known_to = c.pass.new.self.known_to; decoder = c.count-2.new.self } in
    let passing : 0 < i.unread.passing = omega (arith, ap (λ (u : UnreadFrames). u.passing) c.self.view_is, c.requires.under_way) in
    let enough : needed i.decoder ≤ length (concat i.unread.pieces) =
    subst (λ n. needed i.decoder ≤ n) c.len-len.ensures (subst (λ n. n ≤ c.len-len.result) c.needed.ensures c.if-len-needed.false) in
    let suited : suits i.unread.known_to kinds ≡ true = ap (λ (u : UnreadFrames). suits u.known_to kinds) c.self.view_is ∙ fits in
    let unknown : unknown_size kinds (concat i.unread.pieces) ≡ Some i.unread.passing = unknown_suits i.unread.known_to kinds (concat i.unread.pieces) i.unread.passing suited (c.passing-size.ensures.is.unknown passing) in
    let all : i.unread.passing ≤ length (concat i.unread.pieces) =
    subst (λ n. i.unread.passing ≤ n) c.len-len.ensures (subst (λ n. n ≤ c.len-len.result) c.passing-size.ensures.value c.if-len-size.false) in
    subst (λ (u : UnreadFrames). IsPassed kinds u new) c.self.view_is
    (is_passed kinds old new i.unread.passing enough unknown all c.pass.ensures.bytes c.pass.ensures.rest c.pass.ensures.none c.pass.ensures.plain c.count-2.ensures)
