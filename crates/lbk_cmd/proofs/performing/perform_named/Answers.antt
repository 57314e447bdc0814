use Rattle.std.proofs.Common.{◌≡◌, ◌∙◌, ◌≢◌, ℕ, false, List, inl, inr, sym, subst, refl, codes, true≢false}
use Rattle.std.specs.Str.{bytes_eq}
use Rattle.std.proofs.lemmas.Slice.Eq.{bytes_eq-Decides}
use Rattle.lbk_files.specs.Store.{IsLoadFault}
use Rattle.lbk_cmd.proofs.performing.perform_named.Goals as goal

other : (name : List ℕ) → bytes_eq name (codes "-") ≡ false → name ≢ codes "-"
other name differs same = true≢false (sym ((bytes_eq-Decides name (codes "-")).1 same) ∙ differs)

pub returns-then-eq : goal.returns-then-eq
returns-then-eq g c = inl ((bytes_eq-Decides c.args.name.now (codes "-")).0 (sym c.eq.ensures ∙ c.if-eq.true), c.perform_titled.ensures)

pub returns-in-Ok : goal.returns-in-Ok
returns-in-Ok g c = inr (
  other c.args.name.now (sym c.eq.ensures ∙ c.if-eq.false),
  inr (record {
    opened = c.in-Ok.file;
    left = c.perform_titled-in-Ok.new.reader;
    whole = c.in-Ok.ensures.opened;
    runs = c.perform_titled-in-Ok.ensures;
    is = refl;
  }),
)

pub returns-in-Err-Unreadable : goal.returns-in-Err-Unreadable
returns-in-Err-Unreadable g c = inr (
  other c.args.name.now (sym c.eq.ensures ∙ c.if-eq.false),
  inl (record {
    is = refl;
    fault = inl (
      refl,
      subst (IsLoadFault (g.T.Opens.contents c.args.texts.now c.args.name.now)) c.in-Err-Unreadable.field-0-is
          c.in-Err-Unreadable.ensures.fault,
    );
  }),
)

pub returns-in-Err-Memory : goal.returns-in-Err-Memory
returns-in-Err-Memory g c =
    inr (other c.args.name.now (sym c.eq.ensures ∙ c.if-eq.false), inl (record { is = refl; fault = inr refl }))
