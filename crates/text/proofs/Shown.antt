-- The text that a name is shown as.
use Rattle.std.proofs.Common.{◌≡◌, ℕ, zero, suc, ◌+◌, List, [], ◌∷◌, ◌++◌, length, map, encode_utf8, encode_utf8_all, append-nil, sym, refl, ap, ◌∙◌, arith}
use Rattle.std.specs.List.{range_with_len, AllByRecursion}
use Rattle.std.specs.Str.{IsAscii}
use Rattle.std.proofs.lemmas.List.FromFn.{map-range_with_len_more, fill_by_all}
use Rattle.std.proofs.lemmas.Str.{encodes-append, encodes-IsAscii}
use Rattle.text.specs.Names.{name_of, byte_of, ShowsWords}
use Rattle.text.proofs.Letters.{Solid, word_solid}
use Rattle.text.proofs.Packs.{reads_back}

-- one character more
pub shown_more : (f : ℕ → ℕ) (i : ℕ) → encode_utf8_all (map f (range_with_len 0 i)) ++ encode_utf8 (f i) ≡ encode_utf8_all (map f (range_with_len 0 (i + 1)))
shown_more f i =
    let before = map f (range_with_len 0 i) in
    ap (λ l. encode_utf8_all before ++ l) (sym (append-nil (encode_utf8 (f i))))
    ∙ sym (encodes-append before (f i ∷ []))
    ∙ ap encode_utf8_all (sym (map-range_with_len_more f 0 i i (omega arith)))

solid_ascii : (v : List ℕ) → AllByRecursion Solid v → IsAscii v
solid_ascii [] s i = omega arith
solid_ascii (b ∷ v) s zero = s.0.1
solid_ascii (b ∷ v) s (suc i) = solid_ascii v s.1 i

pub shows_words : ShowsWords
shows_words v t =
    let back = reads_back v t in
    ap encode_utf8_all
    (ap (λ k. map (byte_of (name_of v)) (range_with_len 0 k)) back.0 ∙ sym (fill_by_all (byte_of (name_of v)) v (length v) 0 refl (λ k lt. sym (back.1 k))))
    ∙ encodes-IsAscii v (solid_ascii v (word_solid v t))
