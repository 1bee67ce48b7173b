mod MarkedLemmas
