use Rattle.std.proofs.Common.{◌≤◌, List, ℕ, Bor, sym, subst, ◌∙◌}
use Rattle.std.specs.Prelude.{map}
use Rattle.std.proofs.lemmas.List.{length-map}
use Rattle.ipf_frame.proofs.Payloads.{made_preroll, made_well_formed, payload_back}
use Rattle.ipf_frame.proofs.payload.new_payload.Goals as goal

pub write_preroll-requires : goal.write_preroll-requires
write_preroll-requires c =
    let now = λ (au : Bor (List ℕ)). au.now in
    let few = subst (λ (n : ℕ). n ≤ 18) (sym (length-map c.args.aus.now now)) c.requires.few in
    let made = made_preroll c.args.config.now c.args.fade (map now c.args.aus.now) c.in_ok-config.config c.in_ok-units.units c.new.result (c.in_ok-config.ensures ∙ c.in_range.ensures.same ∙ c.requires.is) c.in_ok-units.ensures c.new.ensures in
    made_well_formed c.args.config.now c.args.fade (map now c.args.aus.now) c.args.bytes.now _ c.requires.frames c.requires.slots few c.requires.is c.requires.short made

pub returns : goal.returns
returns c =
    let aus = map (λ (au : Bor (List ℕ)). au.now) c.args.aus.now in
    let made = made_preroll c.args.config.now c.args.fade aus c.in_ok-config.config c.in_ok-units.units c.new.result (c.in_ok-config.ensures ∙ c.in_range.ensures.same ∙ c.requires.is) c.in_ok-units.ensures c.new.ensures in
    payload_back c.args.config.now c.args.fade aus _ c.in_ok-payload.payload c.in_range-2.result.now made (c.in_range-2.ensures.same ∙ c.as_slice.ensures) c.in_range-2.ensures.range c.in_ok-payload.ensures
