use Rattle.std.proofs.Common.{length, ap, sym, ◌∙◌, arith}
use Rattle.au_stream.specs.declared.event.Found.{Found}
use Rattle.au_stream.specs.Reading.{Reading}
use Rattle.au_stream.specs.Views.{next_au}
use Rattle.au_stream.proofs.Held.{opened_found}
use Rattle.au_stream.proofs.reader.AuReader.enter.Goals as goal

pub returns-clause-enters : goal.returns-clause-enters
returns-clause-enters c =
    let put = c.put_in_force-changed in
    let f = c.in_ok-config.ensures.finds in
    (omega (arith, c.in_ok-config.ensures.some, ap (λ (r : Reading). length r.pending) put.ensures.put), opened_found c.args.n c.args.self.now c.find_slots.new.self put.new.self c.in_ok-config.config c.is_some-opens.result put.result c.found.result.head f c.in_ok-config.ensures.some put.ensures.put put.ensures.tells c.is_some-opens.ensures (ap (λ (x : Found). x.head) c.found.ensures), λ asked. ap (λ (x : Found). x.au) c.found.ensures ∙ c.in_ok-au.ensures asked ∙ sym (ap (λ (r : Reading). next_au r) put.ensures.put))
