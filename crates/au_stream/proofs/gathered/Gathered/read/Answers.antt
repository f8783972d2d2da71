use Rattle.std.proofs.Common.{◌≡◌, rules, None, arith, ap, subst, sym, ◌∙◌, Err, ◌+◌, length, [], ◌∷◌, ◌++◌}
use Rattle.latm.specs.MuxElement.{then_in_force}
use Rattle.std.specs.Option.{option_copied}
use Rattle.au_stream.specs.Elements.{in_force_behind, IsElement}
use Rattle.au_stream.specs.Frames.{frames_from}
use Rattle.au_stream.specs.Gathering.{Adds, config_at}
use Rattle.au_stream.specs.Giving.{refused_element}
use Rattle.au_stream.proofs.Gathering.{unread, frames-added}
use Rattle.au_stream.proofs.Runs.{in_force-push}
use Rattle.au_stream.proofs.gathered.Gathered.read.Goals as goal

pub returns-in-Err : goal.returns-in-Err
returns-in-Err c =
    let old = c.args.self.now in
    let force : option_copied c.in_force.result ≡ in_force_behind None old = c.in_force.ensures in
    let bad = rw force at c.in-Err.ensures.fault in
    let count : c.self.inside.frames ≡ length (frames_from None old) = search rules in
    let is : c.refused.result ≡ refused_element (length (frames_from None old)) c.in-Err.fault = c.refused.ensures ∙ ap (λ k. refused_element k c.in-Err.fault) count in
    subst (λ f. Adds c.args.body.now old old (Err f)) (sym is) (unread c.args.body.now old old c.in-Err.fault bad)

pub invariant_of-self-2 : goal.invariant_of-self-2
invariant_of-self-2 c =
    let old = c.args.self.now in
    let e = c.in-Ok.element in
    let force : option_copied c.in_force.result ≡ in_force_behind None old = c.in_force.ensures in
    let f = rw force at c.in-Ok.ensures.found in
    let is : IsElement (in_force_behind None old) e c.args.body.now = record { fits = f.0; spelled = f.1 } in
    let count : c.self.inside.frames ≡ length (frames_from None old) = search rules in
    let pushed : c.push.new.self ≡ old ++ e ∷ [] = search rules in
    let latest : config_at (old ++ e ∷ []) c.latest_with-latest.result ≡ then_in_force (in_force_behind None old) e.config = search rules in
    let slots : c.len-slots.result ≡ length e.slots = search rules in
    let frames : c.self.inside.frames + c.len-slots.result ≡ length (frames_from None (old ++ e ∷ [])) = omega (arith, frames-added old e c.args.body.now is, count, slots) in
    rw pushed (latest ∙ sym (in_force-push None old e), frames)
