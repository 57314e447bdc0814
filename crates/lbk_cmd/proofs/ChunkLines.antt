-- The line of a chunk, put together.
use Rattle.std.proofs.Common.{◌≡◌, ℕ, List, [], ◌∷◌, ◌++◌, append_assoc, sym, ap, ◌∙◌, codes, decimal, Option, None, Some}
use Rattle.json.specs.Print.{escape, escape_byte, print_from}
use Rattle.lbk_chunks.specs.declared.chunk.Chunk.{Chunk}
use Rattle.lbk_cmd.specs.Chunk.{object_line}
use Rattle.lbk_cmd.specs.Objects.{front_of_object, opening}

-- its parts one behind the other
pub parts-joined : (start end words kind rule : List ℕ)
    → 67 ∷ 32 ∷ (start ++ (32 ∷ (end ++ (32 ∷ (words ++ (32 ∷ ((kind ++ 32 ∷ []) ++ (rule ++ 10 ∷ []))))))))
    ≡ 67 ∷ 32 ∷ ((start ++ 32 ∷ end) ++ (32 ∷ (words ++ (32 ∷ (kind ++ (32 ∷ (rule ++ 10 ∷ [])))))))
parts-joined start end words kind rule =
    ap (λ x. 67 ∷ 32 ∷ x)
    (ap (λ x. start ++ (32 ∷ (end ++ (32 ∷ (words ++ (32 ∷ x)))))) (append_assoc kind (32 ∷ []) (rule ++ 10 ∷ []))
    ∙ sym (append_assoc start (32 ∷ end) (32 ∷ (words ++ (32 ∷ (kind ++ (32 ∷ (rule ++ 10 ∷ []))))))))

regroup : (p s m e n w t x q r z : List ℕ) → (p ++ (s ++ (m ++ (e ++ (n ++ (w ++ (t ++ ((x ++ q) ++ r)))))))) ++ z
    ≡ (p ++ (s ++ (m ++ (e ++ (n ++ (w ++ t)))))) ++ (x ++ (q ++ (r ++ z)))
regroup p s m e n w t x q r z = simp append_assoc

named : (f i q l rest : List ℕ) → f ++ ((i ++ q) ++ (l ++ rest)) ≡ (f ++ (i ++ (q ++ l))) ++ rest
named f i q l rest = simp append_assoc

-- the members of an object and what is behind them: up to its text, that, and what is behind it
members-joined : (text : List ℕ) (c : Chunk)
    → (codes "\"start\":" ++ (decimal c.start ++ (codes ",\"end\":" ++ (decimal c.end ++ (codes ",\"words\":" ++ (decimal c.words ++ (codes ",\"text\":\"" ++ ((escape text ++ 34 ∷ []) ++ 125 ∷ [])))))))) ++ 10 ∷ []
    ≡ front_of_object c ++ (escape text ++ (34 ∷ 125 ∷ 10 ∷ []))
members-joined text c =
    regroup (codes "\"start\":") (decimal c.start) (codes ",\"end\":") (decimal c.end) (codes ",\"words\":") (decimal c.words) (codes ",\"text\":\"")
    (escape text) (34 ∷ []) (125 ∷ []) (10 ∷ [])

-- an object, its first bytes, its members up to its text, that and what is behind it
pub object-joined : (file : Option (List ℕ)) (text : List ℕ) (c : Chunk)
    → object_line file text c ≡ opening file ++ (front_of_object c ++ (escape text ++ (34 ∷ 125 ∷ 10 ∷ [])))
unfolding print_from escape_byte
object-joined None text c = ap (λ x. 123 ∷ x) (members-joined text c)
object-joined (Some name) text c =
    let members = codes "\"start\":" ++ (decimal c.start ++ (codes ",\"end\":" ++ (decimal c.end ++ (codes ",\"words\":" ++ (decimal c.words ++ (codes ",\"text\":\"" ++ ((escape text ++ 34 ∷ []) ++ 125 ∷ []))))))) in
    append_assoc (codes "{\"file\":\"") ((escape name ++ 34 ∷ []) ++ (44 ∷ members)) (10 ∷ [])
    ∙ ap (λ x. codes "{\"file\":\"" ++ x) (append_assoc (escape name ++ 34 ∷ []) (44 ∷ members) (10 ∷ []))
    ∙ ap (λ x. codes "{\"file\":\"" ++ ((escape name ++ 34 ∷ []) ++ (44 ∷ x))) (members-joined text c)
    ∙ named (codes "{\"file\":\"") (escape name) (34 ∷ []) (44 ∷ []) (front_of_object c ++ (escape text ++ (34 ∷ 125 ∷ 10 ∷ [])))
