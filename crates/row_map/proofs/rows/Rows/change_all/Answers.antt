use Rattle.std.proofs.Common.{◌≡◌, ◌∷◌, ap, sym, ◌∙◌, List, subst}
use Rattle.row_codec.specs.declared.batch.Row.{Row}
use Rattle.row_map.specs.Rows.{RowMap, changed}
use Rattle.row_map.proofs.Rooms.{IsReady, ready_for_rest}
use Rattle.row_map.proofs.rows.Rows.change_all.Goals as goal

pub loop-row-preserved : goal.loop-row-preserved
loop-row-preserved c =
    let cut : c.loop-row.row-iterator.rest.items ≡ c.in-Some.row ∷ c.next.new.self.rest.items =
    c.in-Some.ensures.steps.0 in
    let is = c.in_ok-change.ensures.changed in
    record {
      leads = ap (λ (m : RowMap). changed m c.next.new.self.rest.items) is
          ∙ sym (ap (changed c.loop-row.self) cut) ∙ c.loop-row.invariant.leads;
      ready = λ ready. subst (IsReady c.next.new.self.rest.items) (sym is)
          (ready_for_rest c.in-Some.row c.next.new.self.rest.items c.loop-row.self
          (subst (λ (rs : List Row). IsReady rs c.loop-row.self) cut (c.loop-row.invariant.ready ready)));
    }
