-- The passages that a loop owns are those that its segmenter has lent.
use Rattle.std.proofs.Common.{◌≡◌, ℕ, ◌+◌, true, Bool, List, [], ◌∷◌, ◌++◌, length, Option, None, Some, Result, Ok, chars, encode_utf8_all, refl, sym, ap, ap₂, subst, ◌∙◌, arith, inl, length-append}
use Rattle.std.specs.List.{flat_map}
use Rattle.std.proofs.KnownBytes.{Consumes-whole}
use Rattle.std.proofs.lemmas.Str.{encodes-append, scalars-chars}
use Rattle.std.proofs.Math.Utf8.{scalars}
use Rattle.lbk_feed.specs.Devices.{Reads}
use Rattle.lbk_feed.proofs.Taking.{Consumes-trans, kept_took}
use Rattle.lbk_passage.specs.Segments.{segments_of}
use Rattle.lbk_ucd.specs.declared.tables.Files.{Files}
use Rattle.lbk_rules.specs.declared.Cell.{Cell}
use Rattle.lbk_values.specs.declared.profile.Profile.{Profile}
use Rattle.lbk_passage.specs.Marks.{Marked, scalars_of, text_of}
use Rattle.lbk_passage.specs.Next.{AfterNext, IsPassage}
use Rattle.lbk_passage.specs.Passages.{passages}
use Rattle.lbk_passage.specs.Pieces.{pieces_of}
use Rattle.lbk_passage.specs.State.{State, new_state}
use Rattle.lbk_passage.specs.declared.faults.PassageFault.{PassageFault}
use Rattle.lbk_passage.specs.declared.passage.Passage.{Passage}
use Rattle.lbk_passage.proofs.SameCells.{AgreeOnScalars, pieces_same, scalars_parts}
use Rattle.lbk_passage.proofs.Together.{passages-scalars}
use Rattle.lbk_files.specs.Cells.{AreCellsOf, cell_of_files}
use Rattle.lbk_cmd.specs.Owned.{AreOwned, AreRead, Owned, lent_as, owned_from, owned_of, owned_passage, owned_passages}
use Rattle.lbk_cmd.specs.Run.{Engine, by_passage}
use Rattle.lbk_cmd.proofs.Breaking.{chars_scalars}
use Rattle.lbk_cmd.proofs.Headlines.{headline, passages-same}
use Rattle.lbk_cmd.proofs.Looping.{Going, at_the_end, Going-given, Going-given-is, Going-new, Going-new-given}
use Rattle.lbk_cmd.proofs.Running.{given_now, lined, passage_now, start_now}
use Rattle.lbk_cmd.proofs.Stopping.{given_whole, run_whole}

owned_same : (a b : ℕ → Cell) → AgreeOnScalars a b → (start : ℕ) (ps : List (List Marked)) → scalars (flat_map scalars_of ps) ≡ true
    → owned_from a start ps ≡ owned_from b start ps
owned_same a b same start [] all = refl
owned_same a b same start (ms ∷ ps) all =
    let both = scalars_parts (scalars_of ms) (flat_map scalars_of ps) all in
    ap₂ (λ pieces rest. owned_of start (text_of ms) (segments_of ms) pieces ∷ rest) (pieces_same a b same (scalars_of ms) both.0)
    (owned_same a b same (start + length (text_of ms)) ps both.1)

owned-snoc : (cell : ℕ → Cell) (start : ℕ) (given : List (List Marked)) (ms : List Marked)
    → owned_from cell start (given ++ ms ∷ []) ≡ owned_from cell start given ++ owned_passage cell (start + length (encode_utf8_all (flat_map scalars_of given))) ms ∷ []
owned-snoc cell start [] ms = ap (λ n. owned_passage cell n ms ∷ []) (let e : start ≡ start + 0 = omega arith in e)
owned-snoc cell start (m ∷ given) ms =
    let long = ap length (encodes-append (scalars_of m) (flat_map scalars_of given))
    ∙ length-append (text_of m) (encode_utf8_all (flat_map scalars_of given)) in
    let place : start + length (text_of m) + length (encode_utf8_all (flat_map scalars_of given)) ≡ start + length (encode_utf8_all (flat_map scalars_of (m ∷ given))) =
    omega (arith, long) in
    ap (λ l. owned_passage cell start m ∷ l) (owned-snoc cell (start + length (text_of m)) given ms
    ∙ ap (λ n. owned_from cell (start + length (text_of m)) given ++ owned_passage cell n ms ∷ []) place)

-- a passage that was lent
pub lent_is : (s : State) (ms : List Marked) (p : Passage) (cell : ℕ → Cell) (start : ℕ) → IsPassage s ms p → s.cell ≡ cell → p.start ≡ start
    → lent_as p ≡ owned_passage cell start ms
lent_is s ms p cell start of cell_is first =
    ap (λ n. owned_of n p.text.now p.segments.now p.pieces.now) first
    ∙ ap (λ text. owned_of start text p.segments.now p.pieces.now) of.text
    ∙ ap (λ segments. owned_of start (text_of ms) segments p.pieces.now) of.segments
    ∙ ap (λ pieces. owned_of start (text_of ms) (segments_of ms) pieces) (of.pieces ∙ ap (λ f. pieces_of f (text_of ms)) cell_is)

module _ (e : Engine) (u0 : Option (List ℕ)) (reads0 : Reads) where
  -- what the calls so far took from the reader, and the passages that they lent
  pub record Owning (s : State) (u : Option (List ℕ)) (has_ended : Bool) (reads : Reads) (items : List Owned) : Type 0 where
    pub going : Going (by_passage e) u0 None reads0 s u None has_ended reads []
    pub list : items ≡ owned_from e.cell 0 going.standing.given

  pub Owning-new : (s : State) (has_ended : Bool) (items : List Owned) → s ≡ new_state e.cell e.profile e.limit → items ≡ []
      → Owning s u0 has_ended reads0 items
  Owning-new s has_ended items is none = record {
    going = Going-new (by_passage e) u0 None reads0 s has_ended is refl;
    list = none ∙ ap (owned_from e.cell 0) (sym (Going-new-given (by_passage e) u0 None reads0 s has_ended is refl));
  }

  module _ (s t : State) (u v : Option (List ℕ)) (e1 e2 : Bool) (r1 r2 : Reads) (r : Result (Option Passage) PassageFault) (items : List Owned)
      (o : Owning s u e1 r1 items) (after : AfterNext s t u v e1 e2 r1 r2 r) where
    pub Owning-next : (p : Passage) → r ≡ Ok (Some p) → (items' : List Owned) → items' ≡ items ++ lent_as p ∷ [] → Owning t v e2 r2 items'
    Owning-next p was items' more =
        let a : AfterNext s t u v e1 e2 r1 r2 (Ok (Some p)) = subst (AfterNext s t u v e1 e2 r1 r2) was after in
        let g = o.going in
        let st = g.standing in
        let b = by_passage e in
        let ms = given_now b s g.bytes (g.out ++ []) st t u v e1 e2 r1 r2 p a in
        let place : p.start ≡ 0 + length (encode_utf8_all (flat_map scalars_of st.given)) =
        omega (arith, start_now b s g.bytes (g.out ++ []) st t u v e1 e2 r1 r2 p a, st.start, ap (λ l. length (encode_utf8_all l)) st.joined) in
        record {
          going = Going-given b u0 None reads0 s t u v None e1 e2 r1 r2 [] g (inl refl) p a (e.lines s.start ms) (lined e s g.bytes (g.out ++ []) st ms) None tt;
          list = more ∙ ap₂ (λ l x. l ++ x ∷ []) o.list
              (lent_is s ms p e.cell _ (passage_now b s g.bytes (g.out ++ []) st t u v e1 e2 r1 r2 p a) st.cell place)
              ∙ sym (owned-snoc e.cell 0 st.given ms)
              ∙ ap (owned_from e.cell 0) (sym (Going-given-is b u0 None reads0 s t u v None e1 e2 r1 r2 [] g (inl refl) p a (e.lines s.start ms) (lined e s g.bytes (g.out ++ []) st ms) None tt));
        }

    -- the text was read to its end
    pub all_owned : r ≡ Ok None → AreOwned e.profile e.cell u0 items
    all_owned was =
        let a : AfterNext s t u v e1 e2 r1 r2 (Ok None) = subst (AfterNext s t u v e1 e2 r1 r2) was after in
        let g = o.going in
        let end = at_the_end (by_passage e) u0 None reads0 s t u v None e1 e2 r1 r2 [] g (inl refl) a in
        record {
          bytes = g.bytes ++ a.got;
          read = Consumes-whole u0 v (g.bytes ++ a.got) (λ input. g.bytes ++ a.got ≡ input)
              (Consumes-trans u0 u v g.bytes a.got g.took (kept_took _ _ _ a.grown u v a.ahead_kept)) end.1 refl;
          utf8 = (run_whole (by_passage e) s g.bytes (g.out ++ []) g.standing t u v e1 e2 r1 r2 a (g.out ++ []) g.standing.is).utf8;
          is = o.list ∙ ap (owned_from e.cell 0) (given_whole (by_passage e) s g.bytes (g.out ++ []) g.standing t u v e1 e2 r1 r2 a);
        }

-- by the cells of files
pub owned_read : (files : Files) (profile : Profile) (cell : ℕ → Cell) (unread : Option (List ℕ)) (items : List Owned) → AreCellsOf files cell
    → AreOwned profile cell unread items → AreRead files profile unread items
owned_read files profile cell unread items cells o =
    let text = chars o.bytes in
    let all = chars_scalars o.bytes o.utf8 in
    let whole : scalars (flat_map scalars_of (passages profile cell text)) ≡ true =
    ap scalars (passages-scalars profile cell text) ∙ scalars-chars o.bytes o.utf8 in
    record {
      owned = record {
        bytes = o.bytes;
        read = o.read;
        utf8 = o.utf8;
        is = o.is ∙ owned_same cell (cell_of_files files) cells 0 (passages profile cell text) whole
            ∙ ap (owned_from (cell_of_files files) 0) (passages-same files profile cell text cells all);
      };
      promised = headline files profile (cell_of_files files) text (λ code is. refl) all;
    }

-- one list of passages is read of some bytes
pub read_once : (files : Files) (profile : Profile) (input : List ℕ) (one other : List Owned)
    → AreRead files profile (Some input) one → AreRead files profile (Some input) other → one ≡ other
read_once files profile input one other a b =
    a.owned.is ∙ ap (owned_passages profile (cell_of_files files)) (a.owned.read ∙ sym b.owned.read) ∙ sym b.owned.is
