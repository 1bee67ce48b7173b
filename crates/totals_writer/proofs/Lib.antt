mod CountedLemmas
mod TallyProofs
mod TotalsRows
