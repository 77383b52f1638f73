mod Readiness
