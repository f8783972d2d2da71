use Rattle.std.proofs.Common.{List, [], ◌∷◌, ◌++◌, ap, ◌∙◌}
use Rattle.latm.specs.declared.mux_element.MuxElement.{MuxElement}
use Rattle.ipf_insert.proofs.OneElement.{one_element}
use Rattle.ipf_strip.proofs.tests.stream_of.Goals as goal

pub returns : goal.returns
returns c =
    let e = c.in_ok-element.element in
    one_element e c.args.bytes.now c.push.new.self c.requires c.in_ok-element.ensures.found.0 c.in_ok-element.ensures.found.1 (c.in_ok-push.ensures.ok ∙ ap (λ (es : List MuxElement). es ++ e ∷ []) c.new-elements.ensures)
