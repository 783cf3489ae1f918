-- What a form wants is what a request is: where all columns are met there is one.
use Rattle.std.proofs.Common.{◌≡◌, ◌<◌, ◌+◌, ℕ, zero, suc, Bor, List, [], ◌∷◌, map, length}
use Rattle.std.proofs.Common.{get_or, take, ap, sym, ◌∙◌, inl, inr, arith}
use Rattle.std.proofs.lemmas.List.{get_or-map}
use Rattle.std.specs.Prelude.{⊤}
use Rattle.sheet_types.specs.declared.command.Command.TheVariants.{Add, Delete, Link, Unlink, Split, Merge}
use Rattle.sheet_types.specs.declared.command.Content.TheVariants.{Tile, Media, Row}
use Rattle.sheet_types.specs.declared.command.Request.{Request}
use Rattle.request_csv.specs.Requests.{AreEmpty, IsRequest, IsTextAt}
use Rattle.request_csv.specs.Forms.{IsFirstUnmet, IsForm, MeetFrom, MeetsAt, columns_of}
use Rattle.request_csv.specs.declared.forms.ColumnFault.{ColumnFault}
use Rattle.request_csv.specs.declared.forms.Form.{Form}
use Rattle.request_csv.specs.declared.forms.Form.TheVariants as form
use Rattle.request_csv.specs.declared.forms.Want.{Want}

-- the text at a place of borrowed texts
pub name_there : (names : List (Bor (List ℕ))) (k : ℕ) (name : Bor (List ℕ)) (none : List ℕ)
    → k < length names → name ≡ get_or names k name
    → get_or (map (λ text. text.now) names) k none ≡ name.now
name_there names k name none low is = get_or-map (λ text. text.now) names k name none low
    ∙ ap (λ text. text.now) (sym is)

-- where all are met none is the first that is not
pub met_not_first : (fields : List (List ℕ)) (column : ℕ) (wants : List Want) (fault : ColumnFault)
    → MeetFrom fields column wants → IsFirstUnmet fields column wants fault → ⊥
met_not_first fields column [] fault met first = first
met_not_first fields column (w ∷ ws) fault met (inl here) = here.2 met.0
met_not_first fields column (w ∷ ws) fault met (inr later) = met_not_first fields (suc column) ws fault met.1 later.1

-- one more is met
pub met_more : (fields : List (List ℕ)) (column : ℕ) (wants : List Want) (k place : ℕ) (d : Want)
    → k < length wants → place ≡ column + k → MeetFrom fields column (take k wants)
    → MeetsAt fields place (get_or wants k d) → MeetFrom fields column (take (suc k) wants)
met_more fields column [] k place d low at met next = absurd (omega (arith, low))
met_more fields column (w ∷ ws) zero place d low at met next =
    let here : place ≡ column = omega (arith, at) in
    (rw here at next, tt)
met_more fields column (w ∷ ws) (suc k) place d low at met next =
    (met.0, met_more fields (suc column) ws k place d (omega (arith, low)) (omega (arith, at)) met.1 next)

-- the next is not
pub first_after : (fields : List (List ℕ)) (column : ℕ) (wants : List Want) (k place : ℕ) (d : Want)
    (fault : ColumnFault) → k < length wants → place ≡ column + k → MeetFrom fields column (take k wants)
    → ¬ MeetsAt fields place (get_or wants k d) → fault.column ≡ place → fault.want ≡ get_or wants k d
    → IsFirstUnmet fields column wants fault
first_after fields column [] k place d fault low at met not_met there is = absurd (omega (arith, low))
first_after fields column (w ∷ ws) zero place d fault low at met not_met there is =
    let here : place ≡ column = omega (arith, at) in
    inl (there ∙ here, is, rw here at not_met)
first_after fields column (w ∷ ws) (suc k) place d fault low at met not_met there is =
    inr (
      met.0,
      first_after fields (suc column) ws k place d fault (omega (arith, low)) (omega (arith, at)) met.1
          not_met there is,
    )

-- columns that are empty, one after the other
abbrev EachEmpty : List (List ℕ) → List ℕ → Type 0
EachEmpty fields [] = ⊤
EachEmpty fields (c ∷ cs) = IsTextAt fields c [] × EachEmpty fields cs

pub each_empty : (fields : List (List ℕ)) (columns : List ℕ) → AreEmpty fields columns → EachEmpty fields columns
each_empty fields [] empty = tt
each_empty fields (c ∷ cs) empty = (
  empty 0 0 (omega arith),
  each_empty fields cs
      (λ k d low. empty (suc k) d (omega (arith, low))),
)

all_empty : (fields : List (List ℕ)) (columns : List ℕ) → EachEmpty fields columns → AreEmpty fields columns
all_empty fields [] empty k d low = absurd (omega (arith, low))
all_empty fields (c ∷ cs) empty zero d low = empty.0
all_empty fields (c ∷ cs) empty (suc k) d low = all_empty fields cs empty.1 k d (omega (arith, low))

-- the request of a record whose columns are all met
pub asked_by : (fields : List (List ℕ)) (form : Form) → length fields ≡ 18 → IsForm fields form
    → MeetFrom fields 0 (columns_of form) → (r : Request) × IsRequest fields r
asked_by fields form.Tile long is (
  (id, is_id),
  (
    (at, is_at),
    (
      named,
      (
        (target, is_target),
        (
          (identity, is_identity),
          (
            e5,
            (
              kind,
              (
                (zoom, is_zoom),
                (
                  (column, is_column),
                  (
                    (line, is_line),
                    (e10, (e11, (e12, (e13, (e14, (e15, (e16, ((bytes, is_bytes), end)))))))),
                  ),
                ),
              ),
            ),
          ),
        ),
      ),
    ),
  ),
) = (
  record { id = id; at = at; command = Add target identity (Tile zoom column line bytes) },
  record {
    columns = long;
    id = is_id;
    at = is_at;
    command = (
      is.0,
      (
        is_target,
        is_identity,
        (
          is.1,
          (
            is_zoom,
            is_column,
            is_line,
            is_bytes,
            (all_empty fields (10 ∷ 11 ∷ 12 ∷ 13 ∷ 14 ∷ 16 ∷ [])
                (e10, (e11, (e12, (e13, (e14, (e16, tt))))))),
          ),
        ),
        (all_empty fields (5 ∷ 15 ∷ []) (e5, (e15, tt))),
      ),
    );
  },
)
asked_by fields form.Medium long is (
  (id, is_id),
  (
    (at, is_at),
    (
      named,
      (
        (target, is_target),
        (
          (identity, is_identity),
          (
            e5,
            (
              kind,
              (
                e7,
                (
                  e8,
                  (
                    e9,
                    (
                      e10,
                      (
                        e11,
                        (
                          e12,
                          (
                            e13,
                            (
                              e14,
                              (
                                e15,
                                ((text, is_text), ((bytes, is_bytes), end)),
                              ),
                            ),
                          ),
                        ),
                      ),
                    ),
                  ),
                ),
              ),
            ),
          ),
        ),
      ),
    ),
  ),
) = (
  record { id = id; at = at; command = Add target identity (Media text bytes) },
  record {
    columns = long;
    id = is_id;
    at = is_at;
    command = (
      is.0,
      (
        is_target,
        is_identity,
        (
          is.1,
          (
            is_text,
            is_bytes,
            (all_empty fields (7 ∷ 8 ∷ 9 ∷ 10 ∷ 11 ∷ 12 ∷ 13 ∷ 14 ∷ [])
                (e7, (e8, (e9, (e10, (e11, (e12, (e13, (e14, tt))))))))),
          ),
        ),
        (all_empty fields (5 ∷ 15 ∷ []) (e5, (e15, tt))),
      ),
    );
  },
)
asked_by fields form.Row long is (
  (id, is_id),
  (
    (at, is_at),
    (
      named,
      (
        (target, is_target),
        (
          (identity, is_identity),
          (
            e5,
            (
              kind,
              (
                e7,
                (
                  e8,
                  (
                    e9,
                    (
                      e10,
                      (
                        e11,
                        (
                          (x, is_x),
                          (
                            (y, is_y),
                            ((code, is_code), (e15, ((text, is_text), (e17, end)))),
                          ),
                        ),
                      ),
                    ),
                  ),
                ),
              ),
            ),
          ),
        ),
      ),
    ),
  ),
) = (
  record { id = id; at = at; command = Add target identity (Row x y code text) },
  record {
    columns = long;
    id = is_id;
    at = is_at;
    command = (
      is.0,
      (
        is_target,
        is_identity,
        (
          is.1,
          (
            is_x,
            is_y,
            is_code,
            is_text,
            (all_empty fields (7 ∷ 8 ∷ 9 ∷ 10 ∷ 11 ∷ 17 ∷ []) (e7, (e8, (e9, (e10, (e11, (e17, tt))))))),
          ),
        ),
        (all_empty fields (5 ∷ 15 ∷ []) (e5, (e15, tt))),
      ),
    );
  },
)
asked_by fields form.Addition long is (id, (at, (word, (target, (identity, (e5, (kind, end))))))) = absurd (is.1 kind)
asked_by fields form.Deletion long word (
  (id, is_id),
  (
    (at, is_at),
    (
      named,
      (
        (source, is_source),
        (
          (identity, is_identity),
          (
            e5,
            (e6, (e7, (e8, (e9, (e10, (e11, (e12, (e13, (e14, (e15, (e16, (e17, end)))))))))))),
          ),
        ),
      ),
    ),
  ),
) = (
  record { id = id; at = at; command = Delete source identity },
  record {
    columns = long;
    id = is_id;
    at = is_at;
    command = (
      word,
      (
        is_source,
        is_identity,
        (all_empty fields
            (5 ∷ 6 ∷ 7 ∷ 8 ∷ 9 ∷ 10 ∷ 11 ∷ 12 ∷ 13 ∷ 14 ∷ 15 ∷ 16 ∷ 17 ∷ [])
            (e5, (e6, (e7, (e8, (e9, (e10, (e11, (e12, (e13, (e14, (e15, (e16, (e17, tt)))))))))))))),
      ),
    );
  },
)
asked_by fields form.Link long (inl word) (
  (id, is_id),
  (
    (at, is_at),
    (
      named,
      (
        (target, is_target),
        (
          (base, is_base),
          (
            (other, is_other),
            ((mapping, is_mapping), (e7, (e8, (e9, (e10, (e11, (e12, (e13, (e14, (e15, (e16, (e17, end)))))))))))),
          ),
        ),
      ),
    ),
  ),
) = (
  record { id = id; at = at; command = Link target mapping base other },
  record {
    columns = long;
    id = is_id;
    at = is_at;
    command = (
      word,
      (
        is_target,
        is_mapping,
        is_base,
        is_other,
        (all_empty fields (7 ∷ 8 ∷ 9 ∷ 10 ∷ 11 ∷ 12 ∷ 13 ∷ 14 ∷ 15 ∷ 16 ∷ 17 ∷ [])
            (e7, (e8, (e9, (e10, (e11, (e12, (e13, (e14, (e15, (e16, (e17, tt)))))))))))),
      ),
    );
  },
)
asked_by fields form.Link long (inr word) (
  (id, is_id),
  (
    (at, is_at),
    (
      named,
      (
        (target, is_target),
        (
          (base, is_base),
          (
            (other, is_other),
            ((mapping, is_mapping), (e7, (e8, (e9, (e10, (e11, (e12, (e13, (e14, (e15, (e16, (e17, end)))))))))))),
          ),
        ),
      ),
    ),
  ),
) = (
  record { id = id; at = at; command = Unlink target mapping base other },
  record {
    columns = long;
    id = is_id;
    at = is_at;
    command = (
      word,
      (
        is_target,
        is_mapping,
        is_base,
        is_other,
        (all_empty fields (7 ∷ 8 ∷ 9 ∷ 10 ∷ 11 ∷ 12 ∷ 13 ∷ 14 ∷ 15 ∷ 16 ∷ 17 ∷ [])
            (e7, (e8, (e9, (e10, (e11, (e12, (e13, (e14, (e15, (e16, (e17, tt)))))))))))),
      ),
    );
  },
)
asked_by fields form.Split long word (
  (id, is_id),
  (
    (at, is_at),
    (
      named,
      (
        (source, is_source),
        (
          e4,
          (
            (child, is_child),
            (
              (mode, is_mode),
              (
                (zoom, is_zoom),
                (
                  (column, is_column),
                  (
                    (line, is_line),
                    (
                      (last_column, is_last_column),
                      (
                        (last_line, is_last_line),
                        (e12, (e13, (e14, (e15, (e16, (e17, end)))))),
                      ),
                    ),
                  ),
                ),
              ),
            ),
          ),
        ),
      ),
    ),
  ),
) = (
  record {
    id = id;
    at = at;
    command = Split source child mode
        (record { zoom = zoom; column = column; last_column = last_column; row = line; last_row = last_line });
  },
  record {
    columns = long;
    id = is_id;
    at = is_at;
    command = (
      word,
      (
        is_source,
        is_child,
        is_mode,
        (is_zoom, is_column, is_last_column, is_line, is_last_line),
        (all_empty fields (4 ∷ 12 ∷ 13 ∷ 14 ∷ 15 ∷ 16 ∷ 17 ∷ [])
            (e4, (e12, (e13, (e14, (e15, (e16, (e17, tt)))))))),
      ),
    );
  },
)
asked_by fields form.Merge long word (
  (id, is_id),
  (
    (at, is_at),
    (
      named,
      (
        (child, is_child),
        (
          e4,
          (
            (into, is_into),
            (
              e6,
              (
                e7,
                (e8, (e9, (e10, (e11, (e12, (e13, (e14, ((ticket, is_ticket), (e16, (e17, end)))))))))),
              ),
            ),
          ),
        ),
      ),
    ),
  ),
) = (
  record { id = id; at = at; command = Merge child into ticket },
  record {
    columns = long;
    id = is_id;
    at = is_at;
    command = (
      word,
      (
        is_child,
        is_into,
        is_ticket,
        (all_empty fields
            (4 ∷ 6 ∷ 7 ∷ 8 ∷ 9 ∷ 10 ∷ 11 ∷ 12 ∷ 13 ∷ 14 ∷ 16 ∷ 17 ∷ [])
            (e4, (e6, (e7, (e8, (e9, (e10, (e11, (e12, (e13, (e14, (e16, (e17, tt))))))))))))),
      ),
    );
  },
)
asked_by fields form.Unknown long none (id, (at, (word, end))) = absurd (none word)
