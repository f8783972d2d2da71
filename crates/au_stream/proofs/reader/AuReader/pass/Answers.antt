use Rattle.std.proofs.Common.{◌+◌, ◌<◌, ◌≤◌, length, ◌∙◌, arith}
use Rattle.loas.specs.Framer.{past_frame, pushed}
use Rattle.au_stream.specs.Script.{most_bytes}
use Rattle.au_stream.proofs.Held.{is_left, next_held, pushed_past, passed_more, passed_last, passed_is, holds_more, holds_last}
use Rattle.au_stream.proofs.reader.AuReader.pass.Goals.{then-self-len, else-self-len}
use Rattle.au_stream.proofs.reader.AuReader.pass.Goals as goal

pub pass-requires : goal.pass-requires
pass-requires c =
    let i = c.self.inside in
    let lt : i.given < length i.slots = is_left i.slots i.given i.length i.frames (rw (← c.self.view_is) at c.requires) in
    (next_held i.slots i.given i.length i.count i.frames c.self.invariant.0 lt).0

pub invariant_of-self : goal.invariant_of-self
invariant_of-self c =
    let i = c.self.inside in
    let v = c.self.invariant in
    let lt : i.given < length i.slots = is_left i.slots i.given i.length i.frames (rw (← c.self.view_is) at c.requires) in
    elim c.if-self-len.branch [
      | then-self-len w ↦
          let held = (next_held i.slots i.given i.length i.count i.frames v.0 lt).0 in
          let le : pushed (past_frame i.length i.frames) ≤ most_bytes = omega (arith, pushed_past i.length i.frames held, v.1) in
          rw (w.self-inside-is, w.pass.ensures) (holds_last i.slots i.given i.length i.count i.frames v.0 (w.if-self-len.true ∙ c.len.ensures), le, v.2)
      | else-self-len w ↦
          let more : i.given + 1 < length i.slots = omega (arith, lt, c.len.ensures, w.if-self-len.false) in
          rw w.self-inside-is (holds_more i.slots i.given i.length i.count i.frames v.0 more, v.1, v.2)
    ]

pub returns-clause-passed : goal.returns-clause-passed
returns-clause-passed c =
    let i = c.self.inside in
    let lt : i.given < length i.slots = is_left i.slots i.given i.length i.frames (rw (← c.self.view_is) at c.requires) in
    elim c.if-self-len.branch [
      | then-self-len w ↦ rw (← c.self.view_is, w.self-inside-is, w.pass.ensures) (passed_is _ _ (passed_last i.slots i.given i.length i.frames i.in_force i.count i.failed (w.if-self-len.true ∙ c.len.ensures)))
      | else-self-len w ↦
          let more : i.given + 1 < length i.slots = omega (arith, lt, c.len.ensures, w.if-self-len.false) in
          rw (← c.self.view_is, w.self-inside-is) (passed_is _ _ (passed_more i.slots i.given i.length i.frames i.in_force i.count i.failed more))
    ]
