-- Where one column that a form wants is not met, the record asks nothing.
use Rattle.std.proofs.Common.{ℕ, List, [], ◌∷◌}
use Rattle.std.proofs.Common.{codes, refl, inl, inr}
use Rattle.sheet_types.specs.Texts.{kind_word}
use Rattle.sheet_types.specs.declared.command.Command.TheVariants.{Link, Split, Merge}
use Rattle.sheet_types.specs.declared.command.Content.TheVariants.{Tile, Media, Row}
use Rattle.sheet_types.specs.declared.command.Request.{Request}
use Rattle.sheet_types.specs.declared.receipt.MovedKind.TheVariants.{TileItem, MediaItem, RowItem}
use Rattle.request_csv.specs.Requests.{IsRequest}
use Rattle.request_csv.specs.Forms.{FaultAsksNothing, IsFirstUnmet, IsForm, columns_of}
use Rattle.request_csv.specs.declared.forms.ColumnFault.{ColumnFault}
use Rattle.request_csv.specs.declared.forms.Form.{Form}
use Rattle.request_csv.specs.declared.forms.Form.TheVariants as form
use Rattle.request_csv.proofs.CommandFacts.{NoAddition, NoDeletion, NoLink, NoUnlink, NoSplit, NoMerge, no_command}
use Rattle.request_csv.proofs.ContentFacts.{NoTile, NoMedium, NoRow, no_content}
use Rattle.request_csv.proofs.OneWord.{apart}
use Rattle.request_csv.proofs.FormFacts.{each_empty, met_not_first}

-- a record with a column that is not met is no request
no_request : (fields : List (List ℕ)) (form : Form) (fault : ColumnFault) (r : Request) → IsForm fields form
    → IsFirstUnmet fields 0 (columns_of form) fault → ¬ IsRequest fields r
no_request fields form.Tile fault r is first asks = no_command fields (codes "add") is.0 (λ same. none)
    (λ same. absurd (apart _ _ refl same)) (λ same. absurd (apart _ _ refl same))
    (λ same. absurd (apart _ _ refl same)) (λ same. absurd (apart _ _ refl same))
    (λ same. absurd (apart _ _ refl same)) r.command asks.command
  where
    none : NoAddition fields
    none target identity content (word, (is_target, is_identity, added, rest)) =
        no_content fields (kind_word TileItem) is.1 (λ same. not_added) (λ same. absurd (apart _ _ refl same))
        (λ same. absurd (apart _ _ refl same)) content added
      where
        not_added : NoTile fields
        not_added zoom column line bytes (kind, (is_zoom, is_column, is_line, is_bytes, less)) =
            let each_less = each_empty fields (10 ∷ 11 ∷ 12 ∷ 13 ∷ 14 ∷ 16 ∷ []) less in
            let each_rest = each_empty fields (5 ∷ 15 ∷ []) rest in
            met_not_first fields 0 (columns_of form.Tile) fault (
              (r.id, asks.id),
              (
                (r.at, asks.at),
                (
                  (r.command, asks.command.0),
                  (
                    (target, is_target),
                    (
                      (identity, is_identity),
                      (
                        each_rest.0,
                        (
                          (Tile zoom column line bytes, kind),
                          (
                            (zoom, is_zoom),
                            (
                              (column, is_column),
                              (
                                (line, is_line),
                                (
                                  each_less.0,
                                  (
                                    each_less.1.0,
                                    (
                                      each_less.1.1.0,
                                      (
                                        each_less.1.1.1.0,
                                        (
                                          each_less.1.1.1.1.0,
                                          (
                                            each_rest.1.0,
                                            (each_less.1.1.1.1.1.0, ((bytes, is_bytes), tt)),
                                          ),
                                        ),
                                      ),
                                    ),
                                  ),
                                ),
                              ),
                            ),
                          ),
                        ),
                      ),
                    ),
                  ),
                ),
              ),
            ) first
no_request fields form.Medium fault r is first asks = no_command fields (codes "add") is.0 (λ same. none)
    (λ same. absurd (apart _ _ refl same)) (λ same. absurd (apart _ _ refl same))
    (λ same. absurd (apart _ _ refl same)) (λ same. absurd (apart _ _ refl same))
    (λ same. absurd (apart _ _ refl same)) r.command asks.command
  where
    none : NoAddition fields
    none target identity content (word, (is_target, is_identity, added, rest)) =
        no_content fields (kind_word MediaItem) is.1 (λ same. absurd (apart _ _ refl same)) (λ same. not_added)
        (λ same. absurd (apart _ _ refl same)) content added
      where
        not_added : NoMedium fields
        not_added text bytes (kind, (is_text, is_bytes, less)) =
            let each_less = each_empty fields (7 ∷ 8 ∷ 9 ∷ 10 ∷ 11 ∷ 12 ∷ 13 ∷ 14 ∷ []) less in
            let each_rest = each_empty fields (5 ∷ 15 ∷ []) rest in
            met_not_first fields 0 (columns_of form.Medium) fault (
              (r.id, asks.id),
              (
                (r.at, asks.at),
                (
                  (r.command, asks.command.0),
                  (
                    (target, is_target),
                    (
                      (identity, is_identity),
                      (
                        each_rest.0,
                        (
                          (Media text bytes, kind),
                          (
                            each_less.0,
                            (
                              each_less.1.0,
                              (
                                each_less.1.1.0,
                                (
                                  each_less.1.1.1.0,
                                  (
                                    each_less.1.1.1.1.0,
                                    (
                                      each_less.1.1.1.1.1.0,
                                      (
                                        each_less.1.1.1.1.1.1.0,
                                        (
                                          each_less.1.1.1.1.1.1.1.0,
                                          (each_rest.1.0, ((text, is_text), ((bytes, is_bytes), tt))),
                                        ),
                                      ),
                                    ),
                                  ),
                                ),
                              ),
                            ),
                          ),
                        ),
                      ),
                    ),
                  ),
                ),
              ),
            ) first
no_request fields form.Row fault r is first asks = no_command fields (codes "add") is.0 (λ same. none)
    (λ same. absurd (apart _ _ refl same)) (λ same. absurd (apart _ _ refl same))
    (λ same. absurd (apart _ _ refl same)) (λ same. absurd (apart _ _ refl same))
    (λ same. absurd (apart _ _ refl same)) r.command asks.command
  where
    none : NoAddition fields
    none target identity content (word, (is_target, is_identity, added, rest)) =
        no_content fields (kind_word RowItem) is.1 (λ same. absurd (apart _ _ refl same))
        (λ same. absurd (apart _ _ refl same)) (λ same. not_added) content added
      where
        not_added : NoRow fields
        not_added x y code text (kind, (is_x, is_y, is_code, is_text, less)) =
            let each_less = each_empty fields (7 ∷ 8 ∷ 9 ∷ 10 ∷ 11 ∷ 17 ∷ []) less in
            let each_rest = each_empty fields (5 ∷ 15 ∷ []) rest in
            met_not_first fields 0 (columns_of form.Row) fault (
              (r.id, asks.id),
              (
                (r.at, asks.at),
                (
                  (r.command, asks.command.0),
                  (
                    (target, is_target),
                    (
                      (identity, is_identity),
                      (
                        each_rest.0,
                        (
                          (Row x y code text, kind),
                          (
                            each_less.0,
                            (
                              each_less.1.0,
                              (
                                each_less.1.1.0,
                                (
                                  each_less.1.1.1.0,
                                  (
                                    each_less.1.1.1.1.0,
                                    (
                                      (x, is_x),
                                      (
                                        (y, is_y),
                                        ((code, is_code), (each_rest.1.0, ((text, is_text), (each_less.1.1.1.1.1.0, tt)))),
                                      ),
                                    ),
                                  ),
                                ),
                              ),
                            ),
                          ),
                        ),
                      ),
                    ),
                  ),
                ),
              ),
            ) first
no_request fields form.Addition fault r is first asks = no_command fields (codes "add") is.0 (λ same. none)
    (λ same. absurd (apart _ _ refl same)) (λ same. absurd (apart _ _ refl same))
    (λ same. absurd (apart _ _ refl same)) (λ same. absurd (apart _ _ refl same))
    (λ same. absurd (apart _ _ refl same)) r.command asks.command
  where
    none : NoAddition fields
    none target identity content asked = is.1 (content, asked.1.2.0)
no_request fields form.Deletion fault r is first asks = no_command fields (codes "delete") is
    (λ same. absurd (apart _ _ refl same)) (λ same. none) (λ same. absurd (apart _ _ refl same))
    (λ same. absurd (apart _ _ refl same)) (λ same. absurd (apart _ _ refl same))
    (λ same. absurd (apart _ _ refl same)) r.command asks.command
  where
    none : NoDeletion fields
    none source identity (word, (is_source, is_identity, rest)) =
        let each_rest = each_empty fields (5 ∷ 6 ∷ 7 ∷ 8 ∷ 9 ∷ 10 ∷ 11 ∷ 12 ∷ 13 ∷ 14 ∷ 15 ∷ 16
        ∷ 17 ∷ []) rest in
        met_not_first fields 0 (columns_of form.Deletion) fault (
          (r.id, asks.id),
          (
            (r.at, asks.at),
            (
              (r.command, asks.command.0),
              (
                (source, is_source),
                (
                  (identity, is_identity),
                  (
                    each_rest.0,
                    (
                      each_rest.1.0,
                      (
                        each_rest.1.1.0,
                        (
                          each_rest.1.1.1.0,
                          (
                            each_rest.1.1.1.1.0,
                            (
                              each_rest.1.1.1.1.1.0,
                              (
                                each_rest.1.1.1.1.1.1.0,
                                (
                                  each_rest.1.1.1.1.1.1.1.0,
                                  (
                                    each_rest.1.1.1.1.1.1.1.1.0,
                                    (
                                      each_rest.1.1.1.1.1.1.1.1.1.0,
                                      (
                                        each_rest.1.1.1.1.1.1.1.1.1.1.0,
                                        (each_rest.1.1.1.1.1.1.1.1.1.1.1.0, (each_rest.1.1.1.1.1.1.1.1.1.1.1.1.0, tt)),
                                      ),
                                    ),
                                  ),
                                ),
                              ),
                            ),
                          ),
                        ),
                      ),
                    ),
                  ),
                ),
              ),
            ),
          ),
        ) first
no_request fields form.Link fault r (inl is) first asks = no_command fields (codes "link") is
    (λ same. absurd (apart _ _ refl same)) (λ same. absurd (apart _ _ refl same)) (λ same. none)
    (λ same. absurd (apart _ _ refl same)) (λ same. absurd (apart _ _ refl same))
    (λ same. absurd (apart _ _ refl same)) r.command asks.command
  where
    none : NoLink fields
    none target base other mapping (word, (is_target, is_mapping, is_base, is_other, rest)) =
        let each_rest = each_empty fields (7 ∷ 8 ∷ 9 ∷ 10 ∷ 11 ∷ 12 ∷ 13 ∷ 14 ∷ 15 ∷ 16 ∷ 17
        ∷ []) rest in
        met_not_first fields 0 (columns_of form.Link) fault (
          (r.id, asks.id),
          (
            (r.at, asks.at),
            (
              (r.command, asks.command.0),
              (
                (target, is_target),
                (
                  (base, is_base),
                  (
                    (other, is_other),
                    (
                      (mapping, is_mapping),
                      (
                        each_rest.0,
                        (
                          each_rest.1.0,
                          (
                            each_rest.1.1.0,
                            (
                              each_rest.1.1.1.0,
                              (
                                each_rest.1.1.1.1.0,
                                (
                                  each_rest.1.1.1.1.1.0,
                                  (
                                    each_rest.1.1.1.1.1.1.0,
                                    (
                                      each_rest.1.1.1.1.1.1.1.0,
                                      (
                                        each_rest.1.1.1.1.1.1.1.1.0,
                                        (each_rest.1.1.1.1.1.1.1.1.1.0, (each_rest.1.1.1.1.1.1.1.1.1.1.0, tt)),
                                      ),
                                    ),
                                  ),
                                ),
                              ),
                            ),
                          ),
                        ),
                      ),
                    ),
                  ),
                ),
              ),
            ),
          ),
        ) first
no_request fields form.Link fault r (inr is) first asks = no_command fields (codes "unlink") is
    (λ same. absurd (apart _ _ refl same)) (λ same. absurd (apart _ _ refl same))
    (λ same. absurd (apart _ _ refl same)) (λ same. none) (λ same. absurd (apart _ _ refl same))
    (λ same. absurd (apart _ _ refl same)) r.command asks.command
  where
    none : NoUnlink fields
    none target base other mapping (word, (is_target, is_mapping, is_base, is_other, rest)) =
        let each_rest = each_empty fields (7 ∷ 8 ∷ 9 ∷ 10 ∷ 11 ∷ 12 ∷ 13 ∷ 14 ∷ 15 ∷ 16 ∷ 17
        ∷ []) rest in
        met_not_first fields 0 (columns_of form.Link) fault (
          (r.id, asks.id),
          (
            (r.at, asks.at),
            (
              (r.command, asks.command.0),
              (
                (target, is_target),
                (
                  (base, is_base),
                  (
                    (other, is_other),
                    (
                      (mapping, is_mapping),
                      (
                        each_rest.0,
                        (
                          each_rest.1.0,
                          (
                            each_rest.1.1.0,
                            (
                              each_rest.1.1.1.0,
                              (
                                each_rest.1.1.1.1.0,
                                (
                                  each_rest.1.1.1.1.1.0,
                                  (
                                    each_rest.1.1.1.1.1.1.0,
                                    (
                                      each_rest.1.1.1.1.1.1.1.0,
                                      (
                                        each_rest.1.1.1.1.1.1.1.1.0,
                                        (each_rest.1.1.1.1.1.1.1.1.1.0, (each_rest.1.1.1.1.1.1.1.1.1.1.0, tt)),
                                      ),
                                    ),
                                  ),
                                ),
                              ),
                            ),
                          ),
                        ),
                      ),
                    ),
                  ),
                ),
              ),
            ),
          ),
        ) first
no_request fields form.Split fault r is first asks = no_command fields (codes "split") is
    (λ same. absurd (apart _ _ refl same)) (λ same. absurd (apart _ _ refl same))
    (λ same. absurd (apart _ _ refl same)) (λ same. absurd (apart _ _ refl same)) (λ same. none)
    (λ same. absurd (apart _ _ refl same)) r.command asks.command
  where
    none : NoSplit fields
    none source child mode rect (
      word,
      (
        is_source,
        is_child,
        is_mode,
        (is_zoom, is_column, is_last_column, is_line, is_last_line),
        rest,
      ),
    ) =
        let each_rest = each_empty fields (4 ∷ 12 ∷ 13 ∷ 14 ∷ 15 ∷ 16 ∷ 17 ∷ []) rest in
        met_not_first fields 0 (columns_of form.Split) fault (
          (r.id, asks.id),
          (
            (r.at, asks.at),
            (
              (r.command, asks.command.0),
              (
                (source, is_source),
                (
                  each_rest.0,
                  (
                    (child, is_child),
                    (
                      (mode, is_mode),
                      (
                        (rect.zoom, is_zoom),
                        (
                          (rect.column, is_column),
                          (
                            (rect.row, is_line),
                            (
                              (rect.last_column, is_last_column),
                              (
                                (rect.last_row, is_last_line),
                                (
                                  each_rest.1.0,
                                  (
                                    each_rest.1.1.0,
                                    (
                                      each_rest.1.1.1.0,
                                      (
                                        each_rest.1.1.1.1.0,
                                        (
                                          each_rest.1.1.1.1.1.0,
                                          (each_rest.1.1.1.1.1.1.0, tt),
                                        ),
                                      ),
                                    ),
                                  ),
                                ),
                              ),
                            ),
                          ),
                        ),
                      ),
                    ),
                  ),
                ),
              ),
            ),
          ),
        ) first
no_request fields form.Merge fault r is first asks = no_command fields (codes "merge") is
    (λ same. absurd (apart _ _ refl same)) (λ same. absurd (apart _ _ refl same))
    (λ same. absurd (apart _ _ refl same)) (λ same. absurd (apart _ _ refl same))
    (λ same. absurd (apart _ _ refl same)) (λ same. none) r.command asks.command
  where
    none : NoMerge fields
    none child into ticket (word, (is_child, is_into, is_ticket, rest)) =
        let each_rest = each_empty fields (4 ∷ 6 ∷ 7 ∷ 8 ∷ 9 ∷ 10 ∷ 11 ∷ 12 ∷ 13 ∷ 14 ∷ 16 ∷ 17
        ∷ []) rest in
        met_not_first fields 0 (columns_of form.Merge) fault (
          (r.id, asks.id),
          (
            (r.at, asks.at),
            (
              (r.command, asks.command.0),
              (
                (child, is_child),
                (
                  each_rest.0,
                  (
                    (into, is_into),
                    (
                      each_rest.1.0,
                      (
                        each_rest.1.1.0,
                        (
                          each_rest.1.1.1.0,
                          (
                            each_rest.1.1.1.1.0,
                            (
                              each_rest.1.1.1.1.1.0,
                              (
                                each_rest.1.1.1.1.1.1.0,
                                (
                                  each_rest.1.1.1.1.1.1.1.0,
                                  (
                                    each_rest.1.1.1.1.1.1.1.1.0,
                                    (
                                      each_rest.1.1.1.1.1.1.1.1.1.0,
                                      (
                                        (ticket, is_ticket),
                                        (each_rest.1.1.1.1.1.1.1.1.1.1.0, (each_rest.1.1.1.1.1.1.1.1.1.1.1.0, tt)),
                                      ),
                                    ),
                                  ),
                                ),
                              ),
                            ),
                          ),
                        ),
                      ),
                    ),
                  ),
                ),
              ),
            ),
          ),
        ) first
no_request fields form.Unknown fault r is first asks = is (r.command, asks.command.0)

pub fault_asks_nothing : FaultAsksNothing
fault_asks_nothing fields fault request (form, is, first) asks = no_request fields form fault request is first asks
