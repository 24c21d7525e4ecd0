use Rattle.std.proofs.Common.{◌≡◌, inr, Option, None, Ok, sym, ◌∙◌, subst}
use Rattle.std.specs.Prelude.{IfSome}
use Rattle.apex_base.specs.declared.numbers.Scale.{Scale}
use Rattle.apex_journal.specs.Journal.{Opens, Told}
use Rattle.row_store.specs.declared.why.StoreWhy.{StoreWhy}
use Rattle.row_store.specs.Opening.{IsBadAmong, WhyRefused}
use Rattle.row_store.specs.Rows.{held_from}
use Rattle.row_store.specs.Store.{StoresOrBlank}
use Rattle.row_store.proofs.Opened.{bad_among, err_more, ok_more, judged}
use Rattle.row_store.proofs.store.RowStore.open.Goals as goal

pub returns-in-Ok-clause-refused : goal.returns-in-Ok-clause-refused
returns-in-Ok-clause-refused g c =
    let records = c.in-Ok.records.items in
    let opens : Told (g.D.Disk.reads c.in-Ok.journal.device) (λ file. Opens c.args.scale file records) =
    subst (λ (s : Scale). Told (g.D.Disk.reads c.in-Ok.journal.device) (λ file. Opens s file records))
    c.in-Ok.ensures.scale c.in-Ok.ensures.stands.opens in
    err_more c.read_rows.result (λ refused. IsBadAmong records refused.1)
    (λ refused. WhyRefused c.args.scale (g.D.Disk.length_of c.args.disk) (g.D.Disk.reads c.args.disk) refused.1)
    c.read_rows.ensures.refused
    (λ refused. bad_among c.args.scale (g.D.Disk.length_of c.args.disk) (g.D.Disk.reads c.args.disk)
    (g.D.Disk.reads c.in-Ok.journal.device)
    records c.in-Ok.ensures.reads opens c.in-Ok.ensures.long refused.1)

pub returns-in-Ok-clause-found : goal.returns-in-Ok-clause-found
returns-in-Ok-clause-found g c =
    let records = c.in-Ok.records.items in
    let opens : Told (g.D.Disk.reads c.in-Ok.journal.device) (λ file. Opens c.args.scale file records) =
    subst (λ (s : Scale). Told (g.D.Disk.reads c.in-Ok.journal.device) (λ file. Opens s file records))
    c.in-Ok.ensures.scale c.in-Ok.ensures.stands.opens in
    ok_more c.read_rows.result (λ store. held_from None records ≡ Ok store.held)
    (λ store. Told (g.D.Disk.reads c.args.disk) (λ file. StoresOrBlank c.args.scale file store.held))
    c.read_rows.ensures.found
    (λ store leads file told. inr (record {
      records = records;
      opens = opens file (c.in-Ok.ensures.reads ∙ told);
      leads = leads;
    }))

pub returns-in-Some-clause-refused : goal.returns-in-Some-clause-refused
returns-in-Some-clause-refused g c =
    subst (λ (why : Option StoreWhy). IfSome why (WhyRefused c.args.scale (g.D.Disk.length_of c.args.disk)
    (g.D.Disk.reads c.args.disk)))
    (sym c.store_why.ensures ∙ c.in-Some.is)
    (judged c.args.scale (g.D.Disk.length_of c.args.disk) (g.D.Disk.reads c.args.disk) c.in-Err.why
    c.in-Err.ensures.refused)
